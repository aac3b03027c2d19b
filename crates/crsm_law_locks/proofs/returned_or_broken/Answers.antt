use Rattle.crsm_law_locks.proofs.Held.{known_there, returned}
use Rattle.crsm_law_locks.proofs.returned_or_broken.Goals as goal

pub returns : goal.returns
returns c = λ key es lawful p q f f' o o' g h before none.
    let one = c.locks_have_one_value.ensures.one in
    let kinds = c.asked_are_grants_or_returns.ensures in
    returned one kinds key es lawful p q f f' o o' g h before none (known_there one kinds key es lawful q f' o' h)
