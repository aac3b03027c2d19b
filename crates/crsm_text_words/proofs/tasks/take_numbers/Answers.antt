use Rattle.std.proofs.Common.{◌≡◌, ◌∷◌, decimal}
use Rattle.crsm_text_words.proofs.tasks.take_numbers.Goals as goal

pub returns-in_err-second-clause-only : goal.returns-in_err-second-clause-only
returns-in_err-second-clause-only c = λ m n rest fits fits_too e.
    let one = c.in_ok-first.ensures.only m (decimal n ∷ rest) fits e in absurd (c.in_err-second.ensures.only n rest fits_too one.1)

pub returns-clause-only : goal.returns-clause-only
returns-clause-only c = λ m n rest fits fits_too e.
    let one = c.in_ok-first.ensures.only m (decimal n ∷ rest) fits e in
    let two = c.in_ok-second.ensures.only n rest fits_too one.1 in
    (one.0, two.0, two.1)
