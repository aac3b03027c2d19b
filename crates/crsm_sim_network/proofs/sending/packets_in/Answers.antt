use Rattle.std.proofs.Common.{◌∙◌, length, ap, refl, arith, length-append}
use Rattle.crsm_sim_network.specs.Packets.{sent_of, sent_to}
use Rattle.crsm_sim_network.proofs.PacketViews.{more_sent}
use Rattle.crsm_sim_network.proofs.sending.packets_in.Goals as goal

pub loop-send-init : goal.loop-send-init
unfolding sent_of
loop-send-init c = record { count = refl; most = omega arith }

pub loop-send-preserved : goal.loop-send-preserved
loop-send-preserved c =
    let was = c.loop-send.invariant in
    let one = c.packets_of-count.ensures in
    let more = ap length (more_sent c.args.sends.now c.loop-send.send-index c.send-item.result c.loop-send-test.true c.send-item.is) ∙ length-append (sent_of _) (sent_to c.send-item.result) in
    record { count = omega (arith, was.count, one.count, more); most = omega (arith, was.most, one.most) }
