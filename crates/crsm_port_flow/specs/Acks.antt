-- What a port may still send: the acknowledgements that it holds back, and whom its node hears.
use Rattle.std.specs.Prelude.{◌≡◌, ◌⊎◌, ℕ, List, ◌∷◌, take, map, slice_index_or}
use Rattle.crsm_port.specs.Meaning.{Packet}
use Rattle.crsm_port.specs.Passing.{Among, Datagrams, either}
use Rattle.crsm_port_flow.specs.declared.acks.Ack.{Ack}

abbrev pub packet_of : Ack → Packet
packet_of a = record { address = a.to; bytes = take a.len a.bytes }

abbrev pub held_in : List Ack → Datagrams
held_in acks = Among (map packet_of acks)

-- the acknowledgement at this place is for the same address
abbrev pub AtPlaceOf : Ack → ℕ → List Ack → Type 0
AtPlaceOf ack place acks = (d : Ack) → (slice_index_or acks place d).to ≡ ack.to

-- an acknowledgement that was held is held still, unless these bytes take its place, as a later one for its address
abbrev pub StayHeld : ℕ → List ℕ → List Ack → List Ack → Type 0
StayHeld to bytes old new = (address : ℕ) (d : List ℕ) → held_in old address d → held_in new address d ⊎ ((address ≡ to) × held_in new to bytes)

-- a datagram that says whom a node hears: of all that goes out it alone was not sent by the replica
abbrev pub SaysHearing : Datagrams
SaysHearing address bytes = (mask : List ℕ) × (bytes ≡ 18 ∷ mask)

-- what the port has sent or may still send, where the port below has sent these
abbrev pub sent_with : Datagrams → List Ack → Datagrams
sent_with below acks = either (either below SaysHearing) (held_in acks)
