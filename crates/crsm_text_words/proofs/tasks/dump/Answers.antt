use Rattle.std.proofs.Common.{◌≡◌, ap, sym, ◌∙◌, Some}
use Rattle.crsm_text_words.specs.Orders.{part_words}
use Rattle.crsm_text_words.specs.declared.order.Task.{Task}
use Rattle.crsm_text_words.proofs.Asking.{dump_asked}
use Rattle.crsm_text_words.proofs.tasks.dump.Goals as goal

pub returns-clause-only : goal.returns-clause-only
returns-clause-only c = λ task asks.
    let a = dump_asked task _ asks in
    let w = c.in_ok-me.ensures.only a.me a.n (part_words a.part) a.below a.size a.values_are in
    let part : c.in_ok-part.part ≡ a.part = cc (c.in_ok-part.ensures.only a.part w.2) in
    ap (λ (t : Task). Some t) ((λ i. Task.Dump (w.0 i) (w.1 i) (part i)) ∙ sym a.task_is)
