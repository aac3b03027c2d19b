-- What becomes of a datagram that is to be sent.
use Rattle.std.specs.Prelude.{◌≡◌, ◌⊎◌, ◌≤◌, ◌<◌, ◌++◌, ℕ, List, [], ◌∷◌, length, true, Result, IsOk}
use Rattle.crsm_base.specs.declared.memory.Failed.{Failed}
use Rattle.crsm_port.specs.Meaning.{Meaning, Packet, Sends}
use Rattle.crsm_port.specs.Sent.{packets_of}
use Rattle.crsm_port_faults.specs.Counts.{Rose}
use Rattle.crsm_port_packets.specs.Cutting.{SendsCut, name_of}
use Rattle.crsm_port_packets.specs.Format.{is_packed}
use Rattle.crsm_port_packets.specs.Given.{MayLetGo}
use Rattle.crsm_port_packets.specs.Peers.{Speaks, addresses_of}
use Rattle.crsm_port_packets.specs.declared.packets.PacketsPort.{PacketsPort}
use Rattle.crsm_port_packets.specs.declared.peer.Peer.{Peer}

-- a port that sends, by the meaning of the port below
pub record Sender : Type 0 where
  pub below : Meaning
  pub now : ℕ
  pub peers : List Peer
  -- the datagrams that wait for others to their address
  pub waiting : List Packet

abbrev pub sender_of : {P C : Type 0} → Meaning → PacketsPort P C → Sender
sender_of below p = record { below = below; now = p.now; peers = p.peers.items; waiting = packets_of p.waiting }

-- ---- any datagram

-- the port below sends it as it is
abbrev pub SendsWhole : ℕ → List ℕ → Meaning → Meaning → Type 0
SendsWhole to bytes old new = (result : Result (Unit {0}) Failed) × IsOk result × Sends to bytes old new result

-- it waits behind others, of which those before may go first; or it goes as it is
abbrev pub IsKept : ℕ → List ℕ → Sender → Sender → Type 0
IsKept to bytes old new =
    (left : List Packet) × (between : Meaning) × MayLetGo (addresses_of old.peers) old.waiting left old.below between
    × (((new.below ≡ between) × (new.waiting ≡ left ++ (record { address = to; bytes = bytes }) ∷ [])) ⊎ ((new.waiting ≡ left) × SendsWhole to bytes between new.below))

-- a send that is answered as done: the datagram waits for others to an address that reads packets, or goes as it is; or it
-- is cut, for an address that reads packets, and all its fragments are sent under its name
abbrev pub IsPassedOn : ℕ → List ℕ → Sender → Sender → Type 0
IsPassedOn to bytes old new =
    (Speaks to old.now old.peers × (length bytes ≤ 1_232) × IsKept to bytes old new)
    ⊎ ((new.waiting ≡ old.waiting) × (SendsWhole to bytes old.below new.below ⊎ (Speaks to old.now old.peers × SendsCut to bytes (name_of bytes) old.below new.below)))

-- the port below counted a loss
abbrev pub IsLostBelow : Sender → Sender → Type 0
IsLostBelow old new = Rose old.below.losses new.below.losses

-- a send that fails: the bytes begin with 20 or are too long to be cut, or a loss was counted
abbrev pub IsRefused : List ℕ → Sender → Sender → Type 0
IsRefused bytes old new = (is_packed bytes ≡ true) ⊎ ((8_344 < length bytes) ⊎ IsLostBelow old new)
