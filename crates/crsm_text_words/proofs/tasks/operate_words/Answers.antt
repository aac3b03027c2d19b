use Rattle.std.proofs.Common.{sym, true≢false, ◌≡◌, [], ◌∷◌}
use Rattle.crsm_text_words.proofs.tasks.operate_words.Goals as goal

pub returns-in_err-word-clause-only : goal.returns-in_err-word-clause-only
returns-in_err-word-clause-only c = λ to word is e.
    let one = c.in_ok-to.ensures.only to (word ∷ []) is e in absurd (c.in_err-word.ensures.only word [] one.1)

pub returns-in_err-take_end-clause-only : goal.returns-in_err-take_end-clause-only
returns-in_err-take_end-clause-only c = λ to word is e.
    let one = c.in_ok-to.ensures.only to (word ∷ []) is e in
    let two = c.in_ok-word.ensures.only word [] one.1 in
    absurd (true≢false (sym (c.in_err-take_end.ensures.only two.1)))

pub returns-clause-only : goal.returns-clause-only
returns-clause-only c = λ to word is e.
    let one = c.in_ok-to.ensures.only to (word ∷ []) is e in
    let two = c.in_ok-word.ensures.only word [] one.1 in
    (one.0, two.0)
