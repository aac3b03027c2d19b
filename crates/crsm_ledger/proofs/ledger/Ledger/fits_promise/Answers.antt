use Rattle.crsm_ledger.proofs.FitsLemmas.{fits-promise}
use Rattle.crsm_ledger.proofs.ledger.Ledger.fits_promise.Goals as goal

pub returns : goal.returns
returns c = λ me n log s. cc (fits-promise s c.args.instance c.args.ballot)
