use Rattle.std.proofs.Common.{true, false, sym}
use Rattle.crsm_spec.specs.Possible.{is_used}
use Rattle.crsm_world.proofs.Reasons.{any_here, any_next, any_end, used_as}
use Rattle.crsm_world.proofs.world.World.has_used.Goals as goal

pub returns-then-is_used : goal.returns-then-is_used
returns-then-is_used c v h = sym (any_here (is_used v) c.args.numbers.now c.loop-number.number-index c.loop-number-test.true (used_as v _ c.is_used.result true (c.is_used.ensures v.packets v.bytes h.network) c.if-is_used.true))

pub loop-number-preserved : goal.loop-number-preserved
loop-number-preserved c v h = any_next (is_used v) c.args.numbers.now c.loop-number.number-index c.loop-number-test.true (c.loop-number.invariant v h) (used_as v _ c.is_used.result false (c.is_used.ensures v.packets v.bytes h.network) c.if-is_used.false)

pub returns : goal.returns
returns c v h = sym (any_end (is_used v) c.args.numbers.now c.loop-number.number-index c.loop-number-test.false (c.loop-number.invariant v h))
