use Rattle.crsm_spec.specs.Log.{executed, logged}
use Rattle.crsm_ledger.proofs.ledger.Ledger.first_above.Goals as goal

pub returns-clause-value : goal.returns-clause-value
returns-clause-value c = λ me n log s. c.first_above.ensures.value (executed log) (logged log) s.says.kept

pub returns-clause-holds : goal.returns-clause-holds
returns-clause-holds c = λ es h. c.first_above.ensures.value h.done es h.kept
