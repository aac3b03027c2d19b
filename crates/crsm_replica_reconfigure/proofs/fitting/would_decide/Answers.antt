use Rattle.std.proofs.Common.{◌∙◌, ap}
use Rattle.crsm_spec.specs.Types.{Rec}
use Rattle.crsm_spec.specs.Fits.{fits}
use Rattle.crsm_replica_reconfigure.proofs.fitting.would_decide.Goals as goal

pub returns : goal.returns
returns c = λ x s.
    c.fits-fits.ensures x.replica.me x.replica.n x.replica.log (c.ledger.ensures.stands x s).says
    ∙ ap (λ d. fits x.replica.me x.replica.n x.replica.log (Rec.Decide d)) c.in_ok-decision.ensures
