use Rattle.crsm_lease.proofs.Values.{locks_are_one, length-lock_bytes}
use Rattle.crsm_lease.proofs.laws.locks_have_one_value.Goals as goal

pub returns-clause-one : goal.returns-clause-one
returns-clause-one c = λ a b fa fb e. locks_are_one a b fa fb e

pub returns-clause-bytes : goal.returns-clause-bytes
returns-clause-bytes c = λ lock. length-lock_bytes lock
