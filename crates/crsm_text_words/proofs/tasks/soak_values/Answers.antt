use Rattle.std.proofs.Common.{sym, true≢false, ◌≡◌, [], ◌∷◌, decimal}
use Rattle.crsm_text_words.proofs.tasks.soak_values.Goals as goal

pub returns-in_err-n-clause-only : goal.returns-in_err-n-clause-only
returns-in_err-n-clause-only c = λ number n steps fits size few e.
    let one = c.in_ok-number.ensures.only number (decimal n ∷ decimal steps ∷ []) fits e in absurd (c.in_err-n.ensures.only n (decimal steps ∷ []) size one.1)

pub returns-in_err-steps-clause-only : goal.returns-in_err-steps-clause-only
returns-in_err-steps-clause-only c = λ number n steps fits size few e.
    let one = c.in_ok-number.ensures.only number (decimal n ∷ decimal steps ∷ []) fits e in
    let two = c.in_ok-n.ensures.only n (decimal steps ∷ []) size one.1 in absurd (c.in_err-steps.ensures.only steps [] few two.1)

pub returns-in_err-take_end-clause-only : goal.returns-in_err-take_end-clause-only
returns-in_err-take_end-clause-only c = λ number n steps fits size few e.
    let one = c.in_ok-number.ensures.only number (decimal n ∷ decimal steps ∷ []) fits e in
    let two = c.in_ok-n.ensures.only n (decimal steps ∷ []) size one.1 in
    let three = c.in_ok-steps.ensures.only steps [] few two.1 in
    absurd (true≢false (sym (c.in_err-take_end.ensures.only three.1)))

pub returns-clause-only : goal.returns-clause-only
returns-clause-only c = λ number n steps fits size few e.
    let one = c.in_ok-number.ensures.only number (decimal n ∷ decimal steps ∷ []) fits e in
    let two = c.in_ok-n.ensures.only n (decimal steps ∷ []) size one.1 in
    let three = c.in_ok-steps.ensures.only steps [] few two.1 in
    (one.0, two.0, three.0)
