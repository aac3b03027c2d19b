use Rattle.std.proofs.Common.{List}
use Rattle.crsm_port.specs.Meaning.{Packet, SendsAll}
use Rattle.crsm_port.specs.Passing.{NoMore}
use Rattle.crsm_port_packets.specs.Carrying.{carried}
use Rattle.crsm_port_packets.specs.Given.{AllGreet}
use Rattle.crsm_port_packets.specs.Peers.{SamePeers, addresses_of}
use Rattle.crsm_port_packets.proofs.packets.greet_each.Given as goal

abbrev pub invariant-loop-peer : goal.invariant-loop-peer
invariant-loop-peer g l = record {
  gives : NoMore (g.P.Port.gives l.initial.port) (g.P.Port.gives l.port);
  sends : NoMore (carried (g.P.Port.may_send l.initial.port)) (carried (g.P.Port.may_send l.port));
  goes : (greetings : List Packet) × AllGreet (addresses_of l.fn.peers) greetings × SendsAll greetings (g.P.Port.meaning l.initial.port) (g.P.Port.meaning l.port);
  peers : SamePeers l.fn.peers l.peer-items;
}
