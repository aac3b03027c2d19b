use Rattle.std.proofs.Common.{sym}
use Rattle.crsm_spec.specs.Possible.{is_not_sent}
use Rattle.crsm_world.proofs.Reasons.{any_here, any_next, any_end, unsent, sent}
use Rattle.crsm_world.proofs.world.World.lacks_packets.Goals as goal

pub returns-then-count-number : goal.returns-then-count-number
returns-then-count-number c v h = sym (any_here (is_not_sent v) c.args.numbers.now c.loop-number.number-index c.loop-number-test.true (unsent v _ c.count.result (c.count.ensures v.packets v.bytes h.network) c.if-count-number.true))

pub loop-number-preserved : goal.loop-number-preserved
loop-number-preserved c v h = any_next (is_not_sent v) c.args.numbers.now c.loop-number.number-index c.loop-number-test.true (c.loop-number.invariant v h) (sent v _ c.count.result (c.count.ensures v.packets v.bytes h.network) c.if-count-number.false)

pub returns : goal.returns
returns c v h = sym (any_end (is_not_sent v) c.args.numbers.now c.loop-number.number-index c.loop-number-test.false (c.loop-number.invariant v h))
