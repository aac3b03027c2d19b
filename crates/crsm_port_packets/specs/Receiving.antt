-- What becomes of a packet that came up.
use Rattle.std.specs.Prelude.{◌≡◌, ◌⊎◌, ◌<◌, ℕ, List, ◌∷◌, length, min, take, drop, Contains, false, true, Some, None}
use Rattle.crsm_port.specs.declared.port.Recv.{Recv}
use Rattle.crsm_port.specs.declared.port.Recv.TheVariants.{Nothing, Datagram}
use Rattle.crsm_port_faults.specs.Counts.{Rose}
use Rattle.crsm_port_packets.specs.Format.{FragmentFields, IsFragment, IsNoBundle, IsNoFragment, entry_at, is_packed}
use Rattle.crsm_port_packets.specs.Kept.{KeepsFragment}
use Rattle.crsm_port_packets.specs.declared.received.Received.{Received}
use Rattle.crsm_port_packets.specs.declared.unpacking.Unpacking.{Unpacking}

-- it is a datagram
abbrev pub IsDatagram : Recv → Type 0
IsDatagram Nothing = ⊥
IsDatagram (Datagram from len) = Unit {0}

-- the datagram goes up, cut to so many bytes
abbrev pub GoesUp : ℕ → List ℕ → (most : ℕ) → List ℕ → Recv → Type 0
GoesUp from bytes most after Nothing = ⊥
GoesUp from bytes most after (Datagram address len) = (address ≡ from) × (len ≡ min most (length bytes)) × (take len after ≡ take len bytes)

-- ---- the bundle that is being taken apart

-- its entries from the next datagram on
abbrev pub left_in : Unpacking → List ℕ
left_in u = drop u.next u.entries.items

-- no datagram of it is left
abbrev pub NoneLeft : Unpacking → Type 0
NoneLeft u = entry_at (left_in u) ≡ None

-- its next datagram goes up
abbrev pub TakesNext : Unpacking → Unpacking → (most : ℕ) → List ℕ → Recv → Type 0
TakesNext old new most after got = (d rest : List ℕ) × (entry_at (left_in old) ≡ Some (d, rest)) × (left_in new ≡ rest) × (new.from ≡ old.from) × GoesUp old.from d most after got

-- it begins with these entries
abbrev pub Begins : ℕ → List ℕ → Unpacking → Type 0
Begins from entries u = (u.from ≡ from) × (left_in u ≡ entries)

-- ---- a packet

-- a bundle is taken apart from now on
abbrev pub OpensBundle : ℕ → List ℕ → Received → Received → Type 0
OpensBundle from packet old new = (entries : List ℕ) × (packet ≡ 20 ∷ 0 ∷ entries) × (Begins from entries new.unpacking ⊎ Rose old.unkept new.unkept)

-- a fragment of a datagram of at most seven, which came at this reading, is kept until the others have come
abbrev pub OpensFragment : (from now : ℕ) → List ℕ → Received → Received → Type 0
OpensFragment from now packet old new = (f : FragmentFields) × IsFragment packet f × (new.unpacking ≡ old.unpacking) × ((7 < f.count) ⊎ (KeepsFragment from now f old.fragments.pieces.items new.fragments.pieces.items ⊎ Rose old.unkept new.unkept))

-- a packet of a peer that gives no datagram yet: a bundle, a fragment, or neither; what there is no memory for is counted
abbrev pub IsOpened : (from now : ℕ) → List ℕ → Received → Received → Type 0
IsOpened from now packet old new = OpensBundle from packet old new ⊎ (OpensFragment from now packet old new ⊎ (IsNoBundle packet × IsNoFragment packet × (new ≡ old)))

-- it is taken from those with these addresses alone
abbrev pub IsOpenedOf : List ℕ → (from now : ℕ) → List ℕ → Received → Received → Type 0
IsOpenedOf addresses from now packet old new = (Contains addresses from × IsOpened from now packet old new) ⊎ ((Contains addresses from → ⊥) × (new ≡ old))

-- a datagram that is a packet as it is goes up; other packets have the byte 20
abbrev pub IsAsItIs : ℕ → List ℕ → (most : ℕ) → List ℕ → Recv → Type 0
IsAsItIs from packet most after got = ((is_packed packet ≡ false) × GoesUp from packet most after got) ⊎ (is_packed packet ≡ true)
