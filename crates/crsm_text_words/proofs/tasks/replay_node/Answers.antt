use Rattle.std.proofs.Common.{◌≡◌, [], ap, sym, ◌∙◌, Some}
use Rattle.crsm_text_words.specs.declared.order.Task.{Task}
use Rattle.crsm_text_words.proofs.Asking.{replay_node_asked}
use Rattle.crsm_text_words.proofs.tasks.replay_node.Goals as goal

pub returns-clause-only : goal.returns-clause-only
returns-clause-only c = λ task asks.
    let a = replay_node_asked task _ asks in
    let w = c.in_ok-me.ensures.only a.me a.n [] a.below a.size a.values_are in
    ap (λ (t : Task). Some t) ((λ i. Task.ReplayNode (w.0 i) (w.1 i)) ∙ sym a.task_is)
