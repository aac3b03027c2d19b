-- The fragments that a port of packets keeps.
use Rattle.std.specs.Prelude.{◌≡◌, ◌⊎◌, ◌+◌, ◌<◌, ◌≤◌, ◌==◌, if◌then◌else◌, ◌&&◌, ℕ, List, [], ◌∷◌, Bool, map, nat_le, nat_lt, Contains}
use Rattle.crsm_port_packets.specs.Carrying.{Fragments}
use Rattle.crsm_port_packets.specs.Format.{FragmentFields}
use Rattle.crsm_port_packets.specs.declared.fragments.Piece.{Piece}

-- a fragment with the address that it came from, and the reading at which it came
pub record Arrived : Type 0 where
  pub from : ℕ
  pub at : ℕ
  pub fragment : FragmentFields

abbrev pub arrived : Piece → Arrived
arrived p = record { from = p.from; at = p.at; fragment = record { name = p.name; index = p.index; count = p.count; bytes = p.bytes.items } }

-- it is among these
abbrev pub IsHeld : List Piece → Arrived → Type 0
IsHeld pieces a = Contains (map arrived pieces) a

abbrev pub kept_in : List Piece → Fragments
kept_in pieces address f = (at : ℕ) × IsHeld pieces (record { from = address; at = at; fragment = f })

-- the second list of fragments has none but those of the first, and this one
abbrev pub GainsOnly : Arrived → List Piece → List Piece → Type 0
GainsOnly gained old new = (a : Arrived) → IsHeld new a → IsHeld old a ⊎ (a ≡ gained)

-- the second list of fragments has none but those of the first
abbrev pub Forgets : List Piece → List Piece → Type 0
Forgets old new = (a : Arrived) → IsHeld new a → IsHeld old a

-- the number of fragments from an address
abbrev pub crowd : ℕ → List Piece → ℕ
crowd from [] = 0
crowd from (p ∷ pieces) = (if p.from == from then 1 else 0) + crowd from pieces

-- each fragment stays, but for one of an address from which there are 28
abbrev pub StaysBut : ℕ → List Piece → List Piece → Type 0
StaysBut from old new = (a : Arrived) → IsHeld old a → IsHeld new a ⊎ ((a.from ≡ from) × (28 ≤ crowd from old))

-- the fragment at an index of the datagram of this one, with these bytes
abbrev pub fragment_of : FragmentFields → ℕ → List ℕ → FragmentFields
fragment_of f index bytes = record f { index = index; bytes = bytes }

-- a fragment of the datagram of this one is missing
abbrev pub IsMissing : ℕ → FragmentFields → List Piece → Type 0
IsMissing from f pieces = (index : ℕ) × (index < f.count) × ((bytes : List ℕ) → kept_in pieces from (fragment_of f index bytes) → ⊥)

-- the fragment that came at this reading is kept with those that were, and another of its datagram is missing
pub record KeepsFragment (from now : ℕ) (f : FragmentFields) (old new : List Piece) : Type 0 where
  pub kept : IsHeld new (record { from = from; at = now; fragment = f })
  pub stays : StaysBut from old new
  pub missing : IsMissing from f new

-- the fragment came less than ten seconds before this reading, and at none that lies ahead of it
abbrev pub is_recent : ℕ → Piece → Bool
is_recent now p = nat_le p.at now && nat_lt now (p.at + 10_000_000)
