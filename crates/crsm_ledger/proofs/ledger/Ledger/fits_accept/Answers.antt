use Rattle.crsm_spec.specs.Log.{known, executed}
use Rattle.crsm_ledger.proofs.FitsLemmas.{fits-accept}
use Rattle.crsm_ledger.proofs.ledger.Ledger.fits_accept.Goals as goal

pub returns : goal.returns
returns c = λ me n log s.
    cc (fits-accept s c.args.instance c.args.ballot c.args.decision.now, c.len.ensures.value (known log) (executed log) s.executed)
