use Rattle.std.proofs.Common.{ap, ◌∙◌}
use Rattle.crsm_text_words.specs.Plans.{plan_of}
use Rattle.crsm_text_words.specs.declared.order.Order.{Order}
use Rattle.crsm_app.proofs.Asked.{read_so}
use Rattle.crsm_app.proofs.command.plan.Goals as goal

pub returns-in-Ok-clause-planned : goal.returns-in-Ok-clause-planned
returns-in-Ok-clause-planned c = record { order = c.in-Ok.order; made = c.in-Ok.ensures.any; kind = c.plan.ensures }

pub returns-in-Ok-clause-asked : goal.returns-in-Ok-clause-asked
returns-in-Ok-clause-asked c = λ plain order asks.
    let same = read_so c.read_words.result c.in-Ok.order order c.in-Ok.is (c.read_words.ensures.only plain order asks) in
    c.plan.ensures ∙ ap (λ (o : Order). plan_of o.task) same
