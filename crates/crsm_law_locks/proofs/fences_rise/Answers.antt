use Rattle.crsm_law_locks.proofs.Held.{rise}
use Rattle.crsm_law_locks.proofs.fences_rise.Goals as goal

pub returns : goal.returns
returns c = λ key es lawful p q f f' o o' g h before. rise c.locks_have_one_value.ensures.one c.asked_are_grants_or_returns.ensures key es lawful p q f f' o o' g h before
