use Rattle.std.proofs.Common.{◌∙◌}
use Rattle.crsm_ledger.proofs.ledger.Ledger.epoch.Goals as goal

pub returns-clause-value : goal.returns-clause-value
returns-clause-value c = λ me n log s. c.epoch.ensures ∙ s.says.executed.epoch
