-- What a port of packets has sent or may still send.
use Rattle.std.specs.Prelude.{◌≡◌, ◌⊎◌, ℕ, List, [], ◌∷◌, ◌++◌, Contains}
use Rattle.crsm_port.specs.Meaning.{Packet}
use Rattle.crsm_port.specs.Passing.{Among, Datagrams, either}
use Rattle.crsm_port_packets.specs.Carrying.{carried}
use Rattle.crsm_port_packets.specs.Format.{StandsIn, entries_of, entry}

-- the datagrams that the packets carry which the port below has sent, and those that wait for others to their address
abbrev pub sent_with : Datagrams → List Packet → Datagrams
sent_with packets waiting = either (carried packets) (Among waiting)

-- the datagrams that stand in a packet to this address, if it is a bundle
abbrev pub standing_in : ℕ → List ℕ → Datagrams
standing_in to packet address d = (address ≡ to) × ((entries : List ℕ) × (packet ≡ 20 ∷ 0 ∷ entries) × StandsIn d entries)

-- the packet is empty, or a bundle
abbrev pub IsBundle : List ℕ → Type 0
IsBundle packet = (packet ≡ []) ⊎ ((entries : List ℕ) × (packet ≡ 20 ∷ 0 ∷ entries))

-- the packet is empty, or a bundle of datagrams that wait for this address
abbrev pub IsFilled : ℕ → List Packet → List ℕ → Type 0
IsFilled to waiting packet = (packet ≡ []) ⊎ ((ds : List (List ℕ)) × (packet ≡ 20 ∷ 0 ∷ entries_of ds) × ((d : List ℕ) → Contains ds d → Among waiting to d))

-- the second packet has one more datagram
pub record HasOneMore (d old new : List ℕ) : Type 0 where
  pub first : old ≡ [] → new ≡ 20 ∷ 0 ∷ entry d
  pub more : (old ≡ [] → ⊥) → new ≡ old ++ entry d
