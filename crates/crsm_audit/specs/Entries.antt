-- The entries of an account.
use Rattle.std.specs.Prelude.{◌≡◌, ℕ, ◌<◌, List, [], Some, length, map, slice_get, slice_index_or, Result, IfOk, IfErr}
use Rattle.std.specs.List.{AllByRecursion}
use Rattle.crsm_base.specs.declared.NoMemory.{NoMemory}
use Rattle.crsm_ledger.specs.Pieces.{IsSpelling}

-- the encodings of executed entries, and of those that the node logged under its own number
pub record EntryLists : Type 0 where
  pub list : List (List ℕ)
  pub held : List (List ℕ)

-- no entries
abbrev pub no_lists : EntryLists
no_lists = record { list = []; held = [] }

-- the bytes are the encoding of an entry
abbrev pub IsAnEntry : List ℕ → Type 0
IsAnEntry bytes = ∥ IsSpelling bytes ∥₁

-- the bodies at these places
unfoldable pub bodies_at : List (List ℕ) → List ℕ → List (List ℕ)
bodies_at kept places = map (λ p. slice_index_or kept p []) places

-- each place is that of a body
abbrev pub AreWithin : List (List ℕ) → List ℕ → Type 0
AreWithin kept places = AllByRecursion (λ p. p < length kept) places

-- each body is an entry, and each place of either list is that of a body
pub record AreKept (kept : List (List ℕ)) (list held : List ℕ) : Type 0 where
  pub entries : AllByRecursion IsAnEntry kept
  pub list_within : AreWithin kept list
  pub held_within : AreWithin kept held

-- The entry stands at this place, and all that was kept before stands where it did.
pub record Has (old new : List (List ℕ)) (bytes : List ℕ) (place : ℕ) : Type 0 where
  pub there : slice_get new place ≡ Some bytes
  pub entries : AllByRecursion IsAnEntry new
  pub within : (places : List ℕ) → AreWithin old places → AreWithin new places
  pub same : (places : List ℕ) → AreWithin old places → bodies_at new places ≡ bodies_at old places

-- the entry stands at the place that is returned, or nothing has changed
abbrev pub Keeps : List (List ℕ) → List ℕ → Result ℕ NoMemory → List (List ℕ) → Type 0
Keeps old bytes result new = IfOk result (Has old new bytes) × IfErr result (λ _. new ≡ old)
