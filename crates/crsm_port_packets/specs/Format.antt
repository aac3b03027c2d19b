-- The format of packets: a datagram as it is, a bundle of datagrams, or a fragment of one.
use Rattle.std.specs.Prelude.{◌≡◌, ◌++◌, ◌+◌, ◌*◌, ◌/◌, ◌%◌, ◌<◌, ℕ, List, [], ◌∷◌, length, take, drop, Bool, false, nat_eq, nat_le, Option, Some, None, if◌then◌else◌}
use Rattle.crsm_port_packets.specs.declared.format.Fragment.{Fragment}
use Rattle.crsm_port_packets.specs.declared.format.PacketKind.{PacketKind}
use Rattle.crsm_port_packets.specs.declared.format.PacketKind.TheVariants as kinds

-- the packet has the byte 20 and a kind; otherwise it is a datagram as it is
abbrev pub is_packed : List ℕ → Bool
is_packed [] = false
is_packed (first ∷ rest) = nat_eq first 20

-- ---- bundles: the byte 20, the kind 0, and each datagram after its length

-- a datagram of a bundle, after its length
abbrev pub entry : List ℕ → List ℕ
entry d = (length d / 256) ∷ (length d % 256) ∷ d

abbrev pub entries_of : List (List ℕ) → List ℕ
entries_of [] = []
entries_of (d ∷ ds) = entry d ++ entries_of ds

-- the first datagram of a bundle's entries, after its length of two bytes, and the entries after it
abbrev pub entry_at : List ℕ → Option (List ℕ × List ℕ)
entry_at [] = None
entry_at (high ∷ []) = None
entry_at (high ∷ low ∷ rest) = if nat_le (high * 256 + low) (length rest) then Some (take (high * 256 + low) rest, drop (high * 256 + low) rest) else None

-- the datagram stands among the entries of a bundle: it is the first, or stands among those after the first
pub data StandsIn (d : List ℕ) : List ℕ → Type 0 where
  first : {entries rest : List ℕ} → entry_at entries ≡ Some (d, rest) → StandsIn d entries
  later : {entries other rest : List ℕ} → entry_at entries ≡ Some (other, rest) → StandsIn d rest → StandsIn d entries

-- the packet is no bundle
abbrev pub IsNoBundle : List ℕ → Type 0
IsNoBundle packet = (entries : List ℕ) → packet ≡ 20 ∷ 0 ∷ entries → ⊥

-- ---- fragments: the byte 20, the kind 1, the 36 bytes that its datagram begins with, the index, the count, and bytes

pub record FragmentFields : Type 0 where
  pub name : List ℕ
  pub index : ℕ
  pub count : ℕ
  pub bytes : List ℕ

abbrev pub fields_of : Fragment → FragmentFields
fields_of f = record { name = f.name.now; index = f.index; count = f.count; bytes = f.bytes.now }

abbrev pub IsFragment : List ℕ → FragmentFields → Type 0
IsFragment packet f = (length f.name ≡ 36) × (packet ≡ 20 ∷ 1 ∷ f.name ++ f.index ∷ f.count ∷ f.bytes)

-- the packet is no whole fragment with an index below its count
abbrev pub IsNoFragment : List ℕ → Type 0
IsNoFragment packet = (f : FragmentFields) → IsFragment packet f → f.index < f.count → ⊥

-- ---- what the first bytes say

-- a fragment has an index below its count
abbrev pub IsWithinCount : PacketKind → Type 0
IsWithinCount (kinds.Bundle entries) = Unit {0}
IsWithinCount (kinds.Fragment f) = f.index < f.count
IsWithinCount kinds.Other = Unit {0}

abbrev pub IsOfKind : List ℕ → PacketKind → Type 0
IsOfKind packet (kinds.Bundle entries) = packet ≡ 20 ∷ 0 ∷ entries.now
IsOfKind packet (kinds.Fragment f) = IsFragment packet (fields_of f)
IsOfKind packet kinds.Other = IsNoBundle packet × IsNoFragment packet
