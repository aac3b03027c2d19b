use Rattle.std.proofs.Common.{◌≡◌, ◌∷◌, decimal}
use Rattle.crsm_text_words.proofs.tasks.take_asked.Goals as goal

pub returns-in_err-turns-clause-only : goal.returns-in_err-turns-clause-only
returns-in_err-turns-clause-only c = λ to turns rest is few e.
    let one = c.in_ok-to.ensures.only to (decimal turns ∷ rest) is e in absurd (c.in_err-turns.ensures.only turns rest few one.1)

pub returns-clause-only : goal.returns-clause-only
returns-clause-only c = λ to turns rest is few e.
    let one = c.in_ok-to.ensures.only to (decimal turns ∷ rest) is e in
    let two = c.in_ok-turns.ensures.only turns rest few one.1 in
    (one.0, two.0, two.1)
