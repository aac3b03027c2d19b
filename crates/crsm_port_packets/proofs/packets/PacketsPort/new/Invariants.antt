use Rattle.std.proofs.Common.{◌≡◌, map, take}
use Rattle.crsm_port_packets.specs.Peers.{unheard}
use Rattle.crsm_port_packets.proofs.packets.PacketsPort.new.Given as goal

abbrev pub invariant-loop-address : goal.invariant-loop-address
invariant-loop-address g l = l.known.items ≡ map unheard (take l.address-index l.peers)
