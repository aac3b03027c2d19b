use Rattle.std.proofs.Common.{◌≡◌, ◌∙◌, ap, arith}
use Rattle.crsm_delay.proofs.Last.{last_below, all_below, none_below, another, the_origin}
use Rattle.crsm_delay.proofs.moments.commit_at.Goals as goal
use Rattle.crsm_delay.proofs.moments.commit_at.Goals.{then-k-plan, else-k-plan}

pub loop-k-init : goal.loop-k-init
loop-k-init c = λ fit. none_below c.args.plan.now c.args.i

pub loop-k-preserved : goal.loop-k-preserved
loop-k-preserved c = λ fit. elim c.if-k-plan.branch [
  | then-k-plan w ↦ w.last-is ∙ w.max-last.ensures ∙ another c.args.plan.now c.args.i c.loop-k.k c.loop-k.last w.ok_at.result w.delay_of.result w.saturating_add-comes.result fit w.if-k-plan.true (c.loop-k.invariant fit) (w.ok_at.ensures fit) w.delay_of.ensures w.saturating_add-comes.ensures
  | else-k-plan w ↦ w.last-is ∙ the_origin c.args.plan.now c.args.i c.loop-k.k c.loop-k.last w.if-k-plan.false (c.loop-k.invariant fit)
]

pub returns : goal.returns
returns c = λ fit.
    let same : c.loop-k.k ≡ c.args.plan.now.n = omega (arith, c.loop-k-test.false, c.loop-k.auto.k-end) in
    c.loop-k.invariant fit ∙ ap (last_below c.args.plan.now c.args.i) same ∙ all_below c.args.plan.now c.args.i
