use Rattle.crsm_spec.specs.Log.{known, executed}
use Rattle.crsm_ledger.proofs.FitsLemmas.{fits-enter}
use Rattle.crsm_ledger.proofs.ledger.Ledger.fits_enter.Goals as goal

pub returns : goal.returns
returns c = λ me n log s.
    cc (fits-enter s c.args.epoch, c.len.ensures.value (known log) (executed log) s.executed)
