use Rattle.std.proofs.Common.{None, ap, arith, inl, inr, refl}
use Rattle.crsm_port.specs.Sent.{packets_of}
use Rattle.crsm_port_packets.proofs.Goings.{none_let_go}
use Rattle.crsm_port_packets.proofs.Greetings.{all_peers, peer_more, same_set}
use Rattle.crsm_port_packets.specs.declared.peer.Peer.{Peer}
use Rattle.crsm_port_packets.proofs.packets.send_to_each.Goals as goal
use Rattle.crsm_port_packets.proofs.packets.send_to_each.Goals.{then-send_waiting, else-send_waiting}

pub loop-peer-init : goal.loop-peer-init
loop-peer-init g c = record {
  gives = λ a d h. h;
  sends = λ a d h. inl h;
  goes = none_let_go (packets_of c.args.waiting.now) (g.P.Port.meaning c.args.port.now);
  peers = refl;
  roomy = c.requires;
}

pub loop-peer-preserved : goal.loop-peer-preserved
loop-peer-preserved g c =
    let before = c.loop-peer.invariant in record {
      gives = λ a d h. before.gives a d (c.send_waiting.ensures.gives a d h);
      sends = λ a d h. elim (c.send_waiting.ensures.sends a d h) [
        | inl went ↦ before.sends a d went
        | inr waits ↦ inr waits
      ];
      goes = peer_more c.args.peers.now c.loop-peer.peer-items c.loop-peer.peer-index before.peers (omega (arith, c.loop-peer-test.true, c.loop-peer.auto.peer-items)) _ _ (packets_of c.args.waiting.now) (g.P.Port.meaning c.args.port.now)
          (g.P.Port.meaning c.loop-peer.port) (g.P.Port.meaning c.send_waiting.new.port) refl before.goes c.send_waiting.ensures.goes;
      peers = elim c.if-send_waiting.branch [
        | then-send_waiting w ↦ rw w.peer-items-is (same_set c.args.peers.now c.loop-peer.peer-items c.loop-peer.peer-index _ w.note_greeted.new.self (omega (arith, c.loop-peer-test.true, c.loop-peer.auto.peer-items))
            (ap (λ (q : Peer). record q { greeted_at = None }) w.note_greeted.ensures) before.peers)
        | else-send_waiting w ↦ rw w.peer-items-is (same_set c.args.peers.now c.loop-peer.peer-items c.loop-peer.peer-index _ _ (omega (arith, c.loop-peer-test.true, c.loop-peer.auto.peer-items)) refl before.peers)
      ];
      roomy = c.send_waiting.ensures.capacity;
    }

pub returns-clause-goes : goal.returns-clause-goes
returns-clause-goes g c =
    all_peers c.args.peers.now c.loop-peer.peer-index (packets_of c.args.waiting.now) (g.P.Port.meaning c.args.port.now) (g.P.Port.meaning c.loop-peer.port) (omega (arith, c.loop-peer-test.false)) c.loop-peer.invariant.goes
