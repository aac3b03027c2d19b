use Rattle.crsm_ledger.proofs.FitsLemmas.{fits-boot}
use Rattle.crsm_ledger.proofs.ledger.Ledger.fits_boot.Goals as goal

pub returns : goal.returns
returns c = λ me n log s. cc (fits-boot s c.args.me c.args.n)
