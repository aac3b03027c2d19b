use Rattle.std.proofs.Common.{◌∙◌, ap}
use Rattle.crsm_spec.specs.Types.{Rec}
use Rattle.crsm_spec.specs.Fits.{fits}
use Rattle.crsm_replica_reconfigure.proofs.FitLemmas.{fits_next}
use Rattle.crsm_replica_reconfigure.proofs.fitting.would_accept.Goals as goal

pub returns : goal.returns
returns c = λ x s.
    c.fits-fits.ensures x.replica.me x.replica.n x.replica.log (c.ledger.ensures.stands x s).says
    ∙ ap (λ d. fits x.replica.me x.replica.n x.replica.log (Rec.Accept c.args.value.now.epoch c.args.ballot d)) c.in_ok-decision.ensures
    ∙ fits_next x c.args.ballot c.args.value.now
