use Rattle.std.proofs.Common.{◌≡◌, ◌∷◌, decimal}
use Rattle.crsm_text_words.proofs.tasks.take_place.Goals as goal

pub returns-in_err-n-clause-only : goal.returns-in_err-n-clause-only
returns-in_err-n-clause-only c = λ me n rest below size e.
    let one = c.in_ok-me.ensures.only me (decimal n ∷ rest) below e in absurd (c.in_err-n.ensures.only n rest size one.1)

pub returns-clause-only : goal.returns-clause-only
returns-clause-only c = λ me n rest below size e.
    let one = c.in_ok-me.ensures.only me (decimal n ∷ rest) below e in
    let two = c.in_ok-n.ensures.only n rest size one.1 in
    (one.0, two.0, two.1)
