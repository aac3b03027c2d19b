use Rattle.std.proofs.Common.{◌≡◌}
use Rattle.crsm_port.specs.Passing.{NoMore}
use Rattle.crsm_port_packets.specs.Asking.{PacketsCome, taker_of}
use Rattle.crsm_port_packets.specs.Held.{unpacked}
use Rattle.crsm_port_packets.specs.Peers.{addresses_of}
use Rattle.crsm_port_packets.proofs.packets.PacketsPort.next.Given as goal

abbrev pub invariant-loop : goal.invariant-loop
invariant-loop g l =
    NoMore (unpacked (g.P.Port.gives l.initial.self.port) l.initial.self.received) (unpacked (g.P.Port.gives l.self.port) l.self.received)
    × NoMore (g.P.Port.may_send l.initial.self.port) (g.P.Port.may_send l.self.port)
    × (l.self ≡ record l.initial.self { port = l.self.port; peers = l.self.peers; room = l.self.room; received = l.self.received })
    × PacketsCome (addresses_of l.initial.self.peers.items) l.initial.self.now l.counter (taker_of (g.P.Port.meaning l.initial.self.port) l.initial.self) (taker_of (g.P.Port.meaning l.self.port) l.self)
    × (addresses_of l.self.peers.items ≡ addresses_of l.initial.self.peers.items)
