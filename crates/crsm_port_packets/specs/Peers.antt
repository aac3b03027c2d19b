-- The peers of a node, and when packets came from them and went to them.
use Rattle.std.specs.Prelude.{◌≡◌, ◌+◌, ◌<◌, ◌≤◌, ℕ, List, map, Contains, Option, Some, None}
use Rattle.crsm_port_packets.specs.declared.peer.Peer.{Peer}

abbrev pub addresses_of : List Peer → List ℕ
addresses_of peers = map (λ (p : Peer). p.address) peers

-- one of the peers has this address
abbrev pub IsPeer : ℕ → List Peer → Type 0
IsPeer from peers = (p : Peer) × Contains peers p × (p.address ≡ from)

-- there is such a reading, and less than `span` microseconds have passed since
abbrev pub IsSince : Option ℕ → ℕ → ℕ → Type 0
IsSince since now span = (at : ℕ) × (since ≡ Some at) × (at ≤ now) × (now < at + span)

-- a packet with the byte 20 came less than three seconds ago from a peer with this address
abbrev pub Speaks : ℕ → ℕ → List Peer → Type 0
Speaks to now peers = (p : Peer) × Contains peers p × (p.address ≡ to) × IsSince p.heard_at now 3_000_000

-- the same peers, from which packets came as before
abbrev pub SamePeers : List Peer → List Peer → Type 0
SamePeers old new = map (λ (p : Peer). record p { greeted_at = None }) new ≡ map (λ (p : Peer). record p { greeted_at = None }) old

-- a peer from which no packet came, and to which none went
abbrev pub unheard : ℕ → Peer
unheard address = record { address = address; heard_at = None; greeted_at = None }
