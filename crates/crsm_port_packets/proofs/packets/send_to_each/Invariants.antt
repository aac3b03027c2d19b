use Rattle.std.proofs.Common.{◌≤◌, take}
use Rattle.std.specs.Prelude.{vec_capacity}
use Rattle.crsm_port.specs.Passing.{NoMore}
use Rattle.crsm_port.specs.Sent.{packets_of}
use Rattle.crsm_port_packets.specs.Carrying.{carried}
use Rattle.crsm_port_packets.specs.Given.{LetsGo}
use Rattle.crsm_port_packets.specs.Peers.{SamePeers, addresses_of}
use Rattle.crsm_port_packets.specs.Sent.{sent_with}
use Rattle.crsm_port_packets.proofs.packets.send_to_each.Given as goal

abbrev pub invariant-loop-peer : goal.invariant-loop-peer
invariant-loop-peer g l = record {
  gives : NoMore (g.P.Port.gives l.initial.port) (g.P.Port.gives l.port);
  sends : NoMore (sent_with (g.P.Port.may_send l.initial.port) (packets_of l.waiting)) (carried (g.P.Port.may_send l.port));
  goes : LetsGo (addresses_of (take l.peer-index l.fn.peers)) (packets_of l.waiting) (g.P.Port.meaning l.initial.port) (g.P.Port.meaning l.port);
  peers : SamePeers l.fn.peers l.peer-items;
  roomy : 1_236 ≤ vec_capacity l.packet;
}
