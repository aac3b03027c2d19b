-- Datagrams that went out as fragments.
use Rattle.std.specs.Prelude.{◌≡◌, ◌*◌, ◌≤◌, ◌++◌, ℕ, zero, suc, List, [], ◌∷◌, length, take, drop, Result, IsOk}
use Rattle.crsm_base.specs.declared.memory.Failed.{Failed}
use Rattle.crsm_port.specs.Meaning.{Meaning, Sends}
use Rattle.crsm_port.specs.Passing.{Datagrams}
use Rattle.crsm_port_packets.specs.Carrying.{Fragments}
use Rattle.crsm_port_packets.specs.Format.{FragmentFields, IsFragment}

-- the name that all fragments of a datagram have: its first bytes
abbrev pub name_of : List ℕ → List ℕ
name_of datagram = take 36 datagram

-- the fragment is one of the datagram's: each has 1,192 bytes of it, and the last one the rest
pub record IsCutFrom (datagram : List ℕ) (f : FragmentFields) : Type 0 where
  pub bytes : f.bytes ≡ take 1192 (drop (f.index * 1192) datagram)
  pub count : length datagram ≤ f.count * 1192

-- the packet is one of its fragments, under this name
abbrev pub IsFragmentOf : (datagram name : List ℕ) → List ℕ → Type 0
IsFragmentOf datagram name packet = (f : FragmentFields) × IsFragment packet f × IsCutFrom datagram f × (f.name ≡ name)

-- the packets to this address that are its fragments
abbrev pub fragments_of : ℕ → (datagram name : List ℕ) → Datagrams
fragments_of to datagram name address packet = (address ≡ to) × IsFragmentOf datagram name packet

-- no two datagrams that were cut, and whose fragments come from one address, have one name
abbrev pub AreApart : Datagrams → Type 0
AreApart cuts = (address : ℕ) (d e : List ℕ) → cuts address d → cuts address e → name_of d ≡ name_of e → d ≡ e

-- the fragment from this address is of one that was cut
pub record IsOfCut (cuts : Datagrams) (address : ℕ) (f : FragmentFields) : Type 0 where
  pub datagram : List ℕ
  pub was_cut : cuts address datagram
  pub name : f.name ≡ name_of datagram
  pub piece : IsCutFrom datagram f

-- so are all of these fragments
abbrev pub AreOfCuts : Datagrams → Fragments → Type 0
AreOfCuts cuts fragments = (address : ℕ) (f : FragmentFields) → fragments address f → IsOfCut cuts address f

-- ---- the fragments of a datagram, one after another

-- the fragment at an index of a datagram, of so many under a name
abbrev pub fragment_at : (datagram name : List ℕ) → (index count : ℕ) → List ℕ
fragment_at datagram name index count = (20 ∷ 1 ∷ name ++ index ∷ count ∷ []) ++ take 1192 (drop (index * 1192) datagram)

-- the port below is given the fragments of a datagram up to an index, and sends each
abbrev pub SendsFragments : ℕ → (datagram name : List ℕ) → (count index : ℕ) → Meaning → Meaning → Type 0
SendsFragments to datagram name count zero old new = new ≡ old
SendsFragments to datagram name count (suc index) old new =
    (between : Meaning) × (result : Result (Unit {0}) Failed) × SendsFragments to datagram name count index old between × IsOk result × Sends to (fragment_at datagram name index count) between new result

-- it sends all fragments of a datagram
abbrev pub SendsCut : ℕ → (datagram name : List ℕ) → Meaning → Meaning → Type 0
SendsCut to datagram name old new = (count : ℕ) × (length datagram ≤ count * 1192) × (count ≤ 7) × SendsFragments to datagram name count count old new
