use Rattle.crsm_law_locks.proofs.Held.{own}
use Rattle.crsm_law_locks.proofs.grants_are_own.Goals as goal

pub returns : goal.returns
returns c = λ key es lawful n f o g. own c.locks_have_one_value.ensures.one c.asked_are_grants_or_returns.ensures key es lawful n f o g
