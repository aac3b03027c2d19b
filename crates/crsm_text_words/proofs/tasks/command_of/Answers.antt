use Rattle.std.proofs.Common.{◌≡◌, List, ap, sym, subst}
use Rattle.std.proofs.lemmas.Result.{err_from_is_err_and}
use Rattle.clap.specs.Words.{Text}
use Rattle.crsm_text_words.specs.Orders.{AreOperation}
use Rattle.crsm_text_words.proofs.Asking.{command_same}
use Rattle.crsm_text_words.proofs.tasks.command_of.Goals as goal

pub returns-in_default-clause-only : goal.returns-in_default-clause-only
returns-in_default-clause-only c = λ command fits bytes asks. absurd (c.in_default.ensures.only command.client command.number asks.op fits.client fits.number asks.words_are)

pub returns-in_err-op-clause-only : goal.returns-in_err-op-clause-only
returns-in_err-op-clause-only c = λ command fits bytes asks.
    let w = c.in-Some.ensures.only command.client command.number asks.op fits.client fits.number asks.words_are in
    let k = c.in_err-op.ensures.only command.op fits.op bytes (subst (λ (ws : List Text). AreOperation ws command.op) (sym w.2) asks.operation) in
    let r = err_from_is_err_and c.from_residual.result c.from_residual.ensures.1 in rw (r.1, r.2) k

pub returns-clause-only : goal.returns-clause-only
returns-clause-only c = λ command fits bytes asks.
    let w = c.in-Some.ensures.only command.client command.number asks.op fits.client fits.number asks.words_are in
    let op : c.in_ok-op.op ≡ command.op = c.in_ok-op.ensures.only command.op fits.op bytes (subst (λ (ws : List Text). AreOperation ws command.op) (sym w.2) asks.operation) in
    command_same _ command w.0 w.1 op
