-- The datagrams that a port keeps until it hands them up.
use Rattle.std.specs.Prelude.{◌≡◌, ℕ, List, length, map, min, take, Contains, Option, Some}
use Rattle.crsm_port.specs.Meaning.{Packet}
use Rattle.crsm_port.specs.Passing.{Among, Cut, Datagrams, NoMore, Only, either}
use Rattle.crsm_port.specs.declared.port.Recv.{Recv}
use Rattle.crsm_port.specs.declared.port.Recv.TheVariants as received
use Rattle.crsm_port_flow.specs.declared.clients.Clients.{Clients}
use Rattle.crsm_port_flow.specs.declared.clients.Operate.{Operate}
use Rattle.crsm_port_flow.specs.declared.datagram.Datagram.{Datagram}
use Rattle.crsm_port_flow.specs.declared.early.Frame.{Frame}
use Rattle.crsm_port_flow.specs.declared.inbound.Inbound.{Inbound}
use Rattle.crsm_port_flow.specs.declared.peers.FromPeers.{FromPeers}
use Rattle.crsm_port_flow.specs.declared.requests.Waiting.{Waiting}

abbrev pub packet_of : Datagram → Packet
packet_of d = record { address = d.from; bytes = d.bytes.items }

-- this is the datagram
abbrev pub Is : ℕ → List ℕ → Datagram → Type 0
Is from bytes d = packet_of d ≡ record { address = from; bytes = bytes }

-- the datagram is handed up, cut to the buffer
abbrev pub GoesUp : Packet → List ℕ → List ℕ → Recv → Type 0
GoesUp d before after received.Nothing = ⊥
GoesUp d before after (received.Datagram from len) = (from ≡ d.address) × (len ≡ min (length before) (length d.bytes)) × (take len after ≡ take len d.bytes)

-- ---- what is kept of peers

abbrev pub ready_in : List Datagram → Datagrams
ready_in ready = Among (map packet_of ready)

-- the frames that wait for an earlier one
abbrev pub early_in : List (Option Frame) → Datagrams
early_in frames address bytes = (f : Frame) × Contains frames (Some f) × (packet_of f.datagram ≡ record { address = address; bytes = bytes })

abbrev pub of_peers : FromPeers → Datagrams
of_peers p = either (ready_in p.ready.items) (early_in p.early.frames.items)

-- ---- what others ask for

abbrev pub packet_in : Waiting → Packet
packet_in r = packet_of r.datagram

abbrev pub waiting_in : List Waiting → Datagrams
waiting_in requests = Among (map packet_in requests)

abbrev pub operate_in : Option Operate → Datagrams
operate_in operate address bytes = (o : Operate) × (operate ≡ Some o) × (packet_of o.datagram ≡ record { address = address; bytes = bytes })

abbrev pub of_clients : Clients → Datagrams
of_clients c = either (waiting_in c.requests.waiting.items) (operate_in c.operate)

-- ---- all

abbrev pub kept_in : Inbound → Datagrams
kept_in i = either (of_peers i.peers) (of_clients i.clients)

-- what the port gives, where the port below gives these: one of them, or one that it keeps, whole or cut
abbrev pub given_by : Datagrams → Inbound → Datagrams
given_by below i = Cut (either below (kept_in i))

-- nothing is kept but what was before, and this datagram
abbrev pub KeepsOnly : ℕ → List ℕ → Datagrams → Datagrams → Type 0
KeepsOnly from bytes old new = NoMore (either (Only from bytes) old) new
