use Rattle.std.proofs.Common.{◌≡◌, List, ap, sym, subst, ◌∙◌, ap₂, Ok, Err}
use Rattle.std.proofs.lemmas.Result.{err_from_is_err_and}
use Rattle.clap.specs.Words.{Text}
use Rattle.crsm_base.specs.declared.Command.{Command}
use Rattle.crsm_text_words.specs.Orders.{AsksCommand}
use Rattle.crsm_text_words.specs.declared.order.Task.{Task}
use Rattle.crsm_text_words.proofs.Asking.{client_asked}
use Rattle.crsm_text_words.proofs.tasks.client.Goals as goal

pub returns-in_default-clause-only : goal.returns-in_default-clause-only
returns-in_default-clause-only c = λ task asks.
    let a = client_asked task _ asks in absurd (c.in_default.ensures.only a.to a.turns a.rest a.limits.address a.limits.patience a.values_are)

pub returns-in_err-command-clause-only : goal.returns-in_err-command-clause-only
returns-in_err-command-clause-only c = λ task asks.
    let a = client_asked task _ asks in
    let w = c.in-Some.ensures.only a.to a.turns a.rest a.limits.address a.limits.patience a.values_are in
    let k = c.in_err-command.ensures.only a.command a.limits.fits a.limits.bytes (subst (λ (ws : List Text). AsksCommand a.command ws) (sym w.2) a.asks) in
    let r = err_from_is_err_and c.from_residual.result c.from_residual.ensures.1 in rw (r.1, r.2) k

pub returns-clause-only : goal.returns-clause-only
returns-clause-only c = λ task asks.
    let a = client_asked task _ asks in
    let w = c.in-Some.ensures.only a.to a.turns a.rest a.limits.address a.limits.patience a.values_are in
    let command : c.in_ok-command.command ≡ a.command = c.in_ok-command.ensures.only a.command a.limits.fits a.limits.bytes (subst (λ (ws : List Text). AsksCommand a.command ws) (sym w.2) a.asks) in
    (λ i. Task.Client (w.0 i) (w.1 i) (command i)) ∙ sym a.task_is
