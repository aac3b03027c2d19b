use Rattle.crsm_ledger.proofs.ReadLemmas.{n-is}
use Rattle.crsm_ledger.proofs.ledger.Ledger.n.Goals as goal

pub returns : goal.returns
returns c = λ me n log s. n-is s.says
