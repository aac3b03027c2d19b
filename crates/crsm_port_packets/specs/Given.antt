-- What the port below is given, in turn, and what goes with it.
use Rattle.std.specs.Prelude.{◌≡◌, ◌⊎◌, ◌≤◌, ℕ, List, [], ◌∷◌, length, All, Contains}
use Rattle.crsm_port.specs.Meaning.{Meaning, Packet, SendsAll}
use Rattle.crsm_port.specs.Passing.{Among}
use Rattle.crsm_port_packets.specs.Carrying.{carried}
use Rattle.crsm_port_packets.specs.Format.{entries_of}
use Rattle.crsm_port_packets.specs.Sent.{standing_in}

-- the packet is a bundle that has this datagram
abbrev pub Holds : List ℕ → List ℕ → Type 0
Holds packet d = (ds : List (List ℕ)) × (packet ≡ 20 ∷ 0 ∷ entries_of ds) × Contains ds d

-- the packet goes to this address as it is, or is a datagram that stands in it
abbrev pub IsOfPacket : ℕ → List ℕ → Packet → Type 0
IsOfPacket to packet p = ((p.address ≡ to) × (p.bytes ≡ packet) × (packet ≡ [] → ⊥)) ⊎ standing_in to packet p.address p.bytes

-- a bundle is sent to this address with all its datagrams, and nothing else
pub record PacketGoes (to : ℕ) (packet : List ℕ) (old new : Meaning) : Type 0 where
  pub sent : List Packet
  pub given : SendsAll sent old new
  pub all : (d : List ℕ) → Holds packet d → carried (Among sent) to d
  pub only : All (IsOfPacket to packet) sent

-- the packet is a datagram that waits for its address, or a bundle of such
abbrev pub IsOfWaiting : List Packet → Packet → Type 0
IsOfWaiting waiting p = Among waiting p.address p.bytes ⊎ ((ds : List (List ℕ)) × (p.bytes ≡ 20 ∷ 0 ∷ entries_of ds) × ((d : List ℕ) → Contains ds d → Among waiting p.address d))

-- all that waits for these addresses is sent, each as it is or in a bundle, and nothing else
pub record LetsGo (addresses : List ℕ) (waiting : List Packet) (old new : Meaning) : Type 0 where
  pub sent : List Packet
  pub given : SendsAll sent old new
  pub all : (to : ℕ) (d : List ℕ) → Contains addresses to → Among waiting to d → length d ≤ 1_232 → carried (Among sent) to d
  pub only : All (IsOfWaiting waiting) sent

-- the packets greet these addresses
abbrev pub AllGreet : List ℕ → List Packet → Type 0
AllGreet addresses greetings = All (λ (p : Packet). (p.bytes ≡ 20 ∷ 0 ∷ []) × Contains addresses p.address) greetings

-- all that waits for these addresses is sent, and then they may be greeted
pub record LetsGoAndGreets (addresses : List ℕ) (waiting : List Packet) (old new : Meaning) : Type 0 where
  pub between : Meaning
  pub goes : LetsGo addresses waiting old between
  pub greetings : List Packet
  pub greet : AllGreet addresses greetings
  pub given : SendsAll greetings between new

-- what waits stays, and the port below is not asked; or all of it is sent
abbrev pub MayLetGo : List ℕ → (waiting left : List Packet) → Meaning → Meaning → Type 0
MayLetGo addresses waiting left old new = ((left ≡ waiting) × (new ≡ old)) ⊎ ((left ≡ []) × LetsGo addresses waiting old new)
