use Rattle.std.proofs.Common.{◌≡◌, ap, sym, ◌∙◌, Some}
use Rattle.crsm_text_words.specs.declared.order.Task.{Task}
use Rattle.crsm_text_words.proofs.Asking.{soak_asked}
use Rattle.crsm_text_words.proofs.tasks.soak.Goals as goal

pub returns-in_err-number-clause-only : goal.returns-in_err-number-clause-only
returns-in_err-number-clause-only c = λ task asks.
    let a = soak_asked task _ asks in absurd (c.in_err-number.ensures.only a.number a.n a.steps a.fits a.size a.few a.values_are)

pub returns-clause-only : goal.returns-clause-only
returns-clause-only c = λ task asks.
    let a = soak_asked task _ asks in
    let w = c.in_ok-number.ensures.only a.number a.n a.steps a.fits a.size a.few a.values_are in
    ap (λ (t : Task). Some t) ((λ i. Task.Soak (w.0 i) (w.1 i) (w.2 i)) ∙ sym a.task_is)
