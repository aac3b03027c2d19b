use Rattle.crsm_spec.specs.Log.{executed, logged}
use Rattle.crsm_ledger.proofs.ExecutedLemmas.{stands-spells}
use Rattle.crsm_ledger.proofs.ledger.Ledger.logged_at.Goals as goal

pub returns-clause-value : goal.returns-clause-value
returns-clause-value c = λ me n log s. c.in_ok-entry.ensures.value (executed log) (logged log) (stands-spells s.says.executed) s.says.kept

pub returns-clause-holds : goal.returns-clause-holds
returns-clause-holds c = λ es h. c.in_ok-entry.ensures.value h.done es h.executed h.kept
