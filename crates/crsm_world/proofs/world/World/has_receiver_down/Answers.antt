use Rattle.std.proofs.Common.{◌∙◌, sym}
use Rattle.crsm_spec.specs.Possible.{is_receiver_down}
use Rattle.crsm_world.proofs.Reasons.{any_here, any_next, any_end}
use Rattle.crsm_world.proofs.world.World.has_receiver_down.Goals as goal

pub returns-then-is_receiver_down : goal.returns-then-is_receiver_down
returns-then-is_receiver_down c v h = sym (any_here (is_receiver_down v) c.args.numbers.now c.loop-number.number-index c.loop-number-test.true (sym (c.is_receiver_down.ensures v h) ∙ c.if-is_receiver_down.true))

pub loop-number-preserved : goal.loop-number-preserved
loop-number-preserved c v h = any_next (is_receiver_down v) c.args.numbers.now c.loop-number.number-index c.loop-number-test.true (c.loop-number.invariant v h) (sym (c.is_receiver_down.ensures v h) ∙ c.if-is_receiver_down.false)

pub returns : goal.returns
returns c v h = sym (any_end (is_receiver_down v) c.args.numbers.now c.loop-number.number-index c.loop-number-test.false (c.loop-number.invariant v h))
