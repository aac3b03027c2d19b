use Rattle.std.proofs.Common.{sym, true≢false, ◌≡◌, [], ◌∷◌, decimal}
use Rattle.crsm_text_words.proofs.tasks.node_words.Goals as goal

pub returns-in_err-turns-clause-only : goal.returns-in_err-turns-clause-only
returns-in_err-turns-clause-only c = λ me n turns peers below size few e.
    let one = c.in_ok-me.ensures.only me n (decimal turns ∷ peers ∷ []) below size e in absurd (c.in_err-turns.ensures.only turns (peers ∷ []) few one.2)

pub returns-in_err-peers-clause-only : goal.returns-in_err-peers-clause-only
returns-in_err-peers-clause-only c = λ me n turns peers below size few e.
    let one = c.in_ok-me.ensures.only me n (decimal turns ∷ peers ∷ []) below size e in
    let two = c.in_ok-turns.ensures.only turns (peers ∷ []) few one.2 in absurd (c.in_err-peers.ensures.only peers [] two.1)

pub returns-in_err-take_end-clause-only : goal.returns-in_err-take_end-clause-only
returns-in_err-take_end-clause-only c = λ me n turns peers below size few e.
    let one = c.in_ok-me.ensures.only me n (decimal turns ∷ peers ∷ []) below size e in
    let two = c.in_ok-turns.ensures.only turns (peers ∷ []) few one.2 in
    let three = c.in_ok-peers.ensures.only peers [] two.1 in
    absurd (true≢false (sym (c.in_err-take_end.ensures.only three.1)))

pub returns-clause-only : goal.returns-clause-only
returns-clause-only c = λ me n turns peers below size few e.
    let one = c.in_ok-me.ensures.only me n (decimal turns ∷ peers ∷ []) below size e in
    let two = c.in_ok-turns.ensures.only turns (peers ∷ []) few one.2 in
    let three = c.in_ok-peers.ensures.only peers [] two.1 in
    (one.0, one.1, two.0, three.0)
