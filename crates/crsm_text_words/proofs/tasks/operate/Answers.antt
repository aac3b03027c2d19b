use Rattle.std.proofs.Common.{◌≡◌, ap, sym, ◌∙◌}
use Rattle.std.proofs.lemmas.Result.{err_from_is_err_and}
use Rattle.crsm_text.specs.Words.{commas}
use Rattle.crsm_text_words.specs.declared.order.Task.{Task}
use Rattle.crsm_text_words.proofs.Asking.{operate_asked}
use Rattle.crsm_text_words.proofs.tasks.operate.Goals as goal

pub returns-in_default-clause-only : goal.returns-in_default-clause-only
returns-in_default-clause-only c = λ task asks.
    let a = operate_asked task _ asks in absurd (c.in_default.ensures.only a.to (commas a.members) a.address a.values_are)

pub returns-in_err-members-clause-only : goal.returns-in_err-members-clause-only
returns-in_err-members-clause-only c = λ task asks.
    let a = operate_asked task _ asks in
    let w = c.in-Some.ensures.only a.to (commas a.members) a.address a.values_are in
    let k = c.in_err-members.ensures.only a.members a.are w.1 in
    let r = err_from_is_err_and c.from_residual.result c.from_residual.ensures.1 in rw (r.1, r.2) k

pub returns-clause-only : goal.returns-clause-only
returns-clause-only c = λ task asks.
    let a = operate_asked task _ asks in
    let w = c.in-Some.ensures.only a.to (commas a.members) a.address a.values_are in
    let members : c.in_ok-members.members ≡ a.members = c.in_ok-members.ensures.only a.members a.are w.1 in
    (λ i. Task.Operate (w.0 i) (members i)) ∙ sym a.task_is
