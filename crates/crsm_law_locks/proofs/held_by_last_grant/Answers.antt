use Rattle.crsm_law_locks.proofs.Following.{known_at}
use Rattle.crsm_law_locks.proofs.Held.{held_then, then_held}
use Rattle.crsm_law_locks.proofs.held_by_last_grant.Goals as goal

pub returns : goal.returns
returns c = λ key es lawful n f o within fits.
    let one = c.locks_have_one_value.ensures.one in
    let kinds = c.asked_are_grants_or_returns.ensures in
    let known = known_at one kinds key es lawful n within in
    (λ held. held_then one kinds key es lawful n f o fits known held, λ last. then_held one kinds key es lawful n f o known last)
