-- A port that was just made.
use Rattle.std.specs.Prelude.{◌≡◌, ℕ, List, [], map}
use Rattle.crsm_port.specs.Sent.{packets_of}
use Rattle.crsm_port_packets.specs.Peers.{unheard}
use Rattle.crsm_port_packets.specs.declared.packets.PacketsPort.{PacketsPort}

-- over this port and clock, for a node whose peers have these addresses
pub record IsNew {P C : Type 0} (inner : P) (clock : C) (peers : List ℕ) (p : PacketsPort P C) : Type 0 where
  pub over : p.port ≡ inner
  pub reads : p.clock ≡ clock
  pub knows : p.peers.items ≡ map unheard peers
  pub none_waits : packets_of p.waiting ≡ []
