use Rattle.crsm_ledger.proofs.ReadLemmas.{suspended-is}
use Rattle.crsm_ledger.proofs.ledger.Ledger.suspended.Goals as goal

pub returns : goal.returns
returns c = λ me n log s. suspended-is s.says
