use Rattle.std.proofs.Common.{◌≡◌, ◌∙◌, ◌++◌, ap, arith}
use Rattle.std.specs.List.{flat_map}
use Rattle.crsm_spec.specs.Lists.{numbers_below}
use Rattle.crsm_delay.specs.Times.{row}
use Rattle.crsm_delay.proofs.Last.{rows_none, rows_more}
use Rattle.crsm_delay.proofs.moments.push_times.Goals as goal

pub loop-i-init : goal.loop-i-init
loop-i-init c = λ fit. rows_none c.args.plan.now c.args.text.now

pub loop-i-preserved : goal.loop-i-preserved
loop-i-preserved c = λ fit. c.in_ok-push_row.ensures fit ∙ rows_more c.args.plan.now c.loop-i.i c.args.text.now c.loop-i.text (c.loop-i.invariant fit)

pub returns : goal.returns
returns c = λ fit.
    let same : c.loop-i.i ≡ c.args.plan.now.n = omega (arith, c.loop-i-test.false, c.loop-i.auto.i-end) in
    c.loop-i.invariant fit ∙ ap (λ n. c.args.text.now ++ flat_map (row c.args.plan.now) (numbers_below n)) same
