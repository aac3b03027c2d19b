use Rattle.std.proofs.Common.{sym, true≢false, ◌≡◌, ◌∙◌, [], ◌∷◌}
use Rattle.crsm_text_words.specs.Orders.{action_text}
use Rattle.crsm_text_words.proofs.tasks.lock_words.Goals as goal

pub returns-in_err-word-clause-only : goal.returns-in_err-word-clause-only
returns-in_err-word-clause-only c = λ key action e.
    let one = c.in_ok-key.ensures.only key (action_text action ∷ []) e in absurd (c.in_err-word.ensures.only (action_text action) [] one.1)

pub returns-in_err-action-clause-only : goal.returns-in_err-action-clause-only
returns-in_err-action-clause-only c = λ key action e.
    let one = c.in_ok-key.ensures.only key (action_text action ∷ []) e in
    let two = c.in_ok-word.ensures.only (action_text action) [] one.1 in
    let read = c.in_err-action.ensures.only action two.0 in absurd (cc read)

pub returns-in_err-take_end-clause-only : goal.returns-in_err-take_end-clause-only
returns-in_err-take_end-clause-only c = λ key action e.
    let one = c.in_ok-key.ensures.only key (action_text action ∷ []) e in
    let two = c.in_ok-word.ensures.only (action_text action) [] one.1 in
    absurd (true≢false (sym (c.in_err-take_end.ensures.only two.1)))

pub returns-clause-only : goal.returns-clause-only
returns-clause-only c = λ key action e.
    let one = c.in_ok-key.ensures.only key (action_text action ∷ []) e in
    let two = c.in_ok-word.ensures.only (action_text action) [] one.1 in
    let read = c.in_ok-action.ensures.only action two.0 in
    let same : c.in_ok-action.action ≡ action = cc read in
    (one.0, same)
