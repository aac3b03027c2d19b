use Rattle.std.proofs.Common.{◌∙◌}
use Rattle.crsm_ledger.proofs.ReadLemmas.{known-is}
use Rattle.crsm_ledger.proofs.ledger.Ledger.known.Goals as goal

pub returns-clause-value : goal.returns-clause-value
returns-clause-value c = λ me n log s. c.get.ensures.value ∙ known-is s.says
