use Rattle.crsm_ledger.proofs.ReadLemmas.{me-is}
use Rattle.crsm_ledger.proofs.ledger.Ledger.me.Goals as goal

pub returns : goal.returns
returns c = λ me n log s. me-is s.says
