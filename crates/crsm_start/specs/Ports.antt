-- The ports of a node over its socket.
use Rattle.std.specs.Prelude.{ℕ, List, not, ◌==◌}
use Rattle.std.specs.List.{filter}
use Rattle.crsm_port_flow.specs.New.{IsNew as IsNewFlow}
use Rattle.crsm_port_flow.specs.declared.flow.FlowPort.{FlowPort}
use Rattle.crsm_port_packets.specs.New.{IsNew as IsNewPackets}
use Rattle.crsm_port_packets.specs.declared.packets.PacketsPort.{PacketsPort}
use Rattle.crsm_port_peers.specs.New.{IsNew as IsNewPeers}
use Rattle.crsm_port_peers.specs.declared.peer.PeerPort.{PeerPort}

-- the addresses of the others
abbrev pub without : ℕ → List ℕ → List ℕ
without own peers = filter (λ address. not (address == own)) peers

-- over the socket, packets for the others; over these, the check of senders by the addresses of all; and over that, flow
-- control for the replica of this number among all
pub record IsNodePort {S C : Type 0} (socket : S) (me own : ℕ) (peers : List ℕ) (p : FlowPort (PeerPort (PacketsPort S C)) C) : Type 0 where
  pub packets : PacketsPort S C
  pub checked : PeerPort (PacketsPort S C)
  pub first : C
  pub second : C
  pub over_socket : IsNewPackets socket first (without own peers) packets
  pub over_packets : IsNewPeers packets peers checked
  pub over_checked : IsNewFlow checked second me peers p
