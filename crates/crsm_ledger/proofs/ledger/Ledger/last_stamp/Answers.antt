use Rattle.std.proofs.Common.{◌∙◌}
use Rattle.crsm_spec.specs.Log.{known, executed}
use Rattle.crsm_ledger.proofs.ExecutedLemmas.{last_stamp-in}
use Rattle.crsm_ledger.proofs.ledger.Ledger.last_stamp.Goals as goal

pub returns-clause-value : goal.returns-clause-value
returns-clause-value c = λ me n log s. c.last_stamp.ensures.value (known log) (executed log) s.says.executed ∙ last_stamp-in log
