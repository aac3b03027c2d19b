use Rattle.std.proofs.Common.{◌==◌, not, sym}
use Rattle.crsm_sim_network.specs.Packets.{receiver_or}
use Rattle.crsm_world.proofs.Reasons.{any_here, any_next, any_end, differs, agrees}
use Rattle.crsm_world.proofs.world.World.one_is_for_another.Goals as goal

pub returns-then-receiver_or-to : goal.returns-then-receiver_or-to
returns-then-receiver_or-to c v h =
    sym (any_here (λ i. not (receiver_or v.packets i == c.args.to)) c.args.numbers.now c.loop-number.number-index c.loop-number-test.true (differs _ c.args.to c.receiver_or.result (c.receiver_or.ensures v.packets v.bytes h.network) c.if-receiver_or-to.true))

pub loop-number-preserved : goal.loop-number-preserved
loop-number-preserved c v h =
    any_next (λ i. not (receiver_or v.packets i == c.args.to)) c.args.numbers.now c.loop-number.number-index c.loop-number-test.true (c.loop-number.invariant v h) (agrees _ c.args.to c.receiver_or.result (c.receiver_or.ensures v.packets v.bytes h.network) c.if-receiver_or-to.false)

pub returns : goal.returns
returns c v h = sym (any_end (λ i. not (receiver_or v.packets i == c.args.to)) c.args.numbers.now c.loop-number.number-index c.loop-number-test.false (c.loop-number.invariant v h))
