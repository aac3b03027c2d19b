use Rattle.std.proofs.Common.{None, ap, arith, refl}
use Rattle.crsm_port_packets.specs.declared.peer.Peer.{Peer}
use Rattle.crsm_port_packets.proofs.Greetings.{greets_more, port_goes, same_set}
use Rattle.crsm_port_packets.proofs.packets.greet_each.Goals as goal

pub loop-peer-preserved : goal.loop-peer-preserved
loop-peer-preserved g c =
    let before = c.loop-peer.invariant in record {
      gives = λ a d h. before.gives a d (c.greet.ensures.gives a d h);
      sends = λ a d h. before.sends a d (c.greet.ensures.sends a d h);
      goes = greets_more c.args.peers.now c.loop-peer.peer-items c.loop-peer.peer-index before.peers (omega (arith, c.loop-peer-test.true, c.loop-peer.auto.peer-items)) _ _ (g.P.Port.meaning c.args.port.now)
          (g.P.Port.meaning c.loop-peer.port) (g.P.Port.meaning c.greet.new.port) before.goes.0 refl before.goes.1 before.goes.2 (port_goes g.P.Port.meaning c.loop-peer.port c.greet.new.port _ c.greet.ensures.goes);
      peers = same_set c.args.peers.now c.loop-peer.peer-items c.loop-peer.peer-index _ c.greet.new.self (omega (arith, c.loop-peer-test.true, c.loop-peer.auto.peer-items))
          (ap (λ (q : Peer). record q { greeted_at = None }) c.greet.ensures.same) before.peers;
    }
