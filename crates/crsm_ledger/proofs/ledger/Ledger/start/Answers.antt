use Rattle.crsm_ledger.proofs.ReadLemmas.{start-is}
use Rattle.crsm_ledger.proofs.ledger.Ledger.start.Goals as goal

pub returns : goal.returns
returns c = λ me n log s. start-is s.says
