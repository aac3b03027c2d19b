use Rattle.crsm_ledger.proofs.FitsLemmas.{fits-suspend}
use Rattle.crsm_ledger.proofs.ledger.Ledger.fits_suspend.Goals as goal

pub returns : goal.returns
returns c = λ me n log s. cc (fits-suspend s c.args.epoch)
