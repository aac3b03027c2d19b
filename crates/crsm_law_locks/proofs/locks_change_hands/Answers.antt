use Rattle.crsm_law_locks.proofs.Hands.{hands}
use Rattle.crsm_law_locks.proofs.locks_change_hands.Goals as goal

pub returns : goal.returns
returns c = hands
