use Rattle.crsm_ledger.proofs.ReadLemmas.{boots-is}
use Rattle.crsm_ledger.proofs.ledger.Ledger.boot.Goals as goal

pub returns : goal.returns
returns c = λ me n log s. boots-is s.says
