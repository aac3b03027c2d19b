use Rattle.std.proofs.Common.{◌∙◌}
use Rattle.crsm_ledger.proofs.ReadLemmas.{promised-is}
use Rattle.crsm_ledger.proofs.ledger.Ledger.promised.Goals as goal

pub returns-clause-value : goal.returns-clause-value
returns-clause-value c = λ me n log s. c.get.ensures.value ∙ promised-is s.says
