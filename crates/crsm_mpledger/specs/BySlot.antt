-- Values by slot in memory: those of the first slots in a list, those beyond a gap in a map.
use Rattle.std.specs.Prelude.{◌≡◌, ℕ, suc, ◌≤◌, List, [], ◌∷◌, ◌++◌, length}
use Rattle.crsm_mpledger.specs.declared.by_slot.BySlot.{BySlot}

-- the values with their slots, from this slot on
abbrev pub numbered : {V : Type 0} → ℕ → List V → List (ℕ × V)
numbered slot [] = []
numbered slot (v ∷ vs) = (slot, v) ∷ numbered (suc slot) vs

-- no slot is below this one
abbrev pub AreFrom : {V : Type 0} → ℕ → List (ℕ × V) → Type 0
AreFrom slot [] = Unit {0}
AreFrom slot (e ∷ es) = (slot ≤ e.0) × AreFrom slot es

-- the first slot is this one
abbrev pub BeginsAt : {V : Type 0} → ℕ → List (ℕ × V) → Type 0
BeginsAt slot [] = ⊥
BeginsAt slot (e ∷ es) = e.0 ≡ slot

-- These are the values, by ascending slot, and the list goes up to the first slot that has none.
pub record SlotsStand {V : Type 0} (slots : BySlot V) (entries : List (ℕ × V)) : Type 0 where
  pub is : numbered 0 slots.prefix.items ++ slots.beyond.entries ≡ entries
  pub apart : AreFrom (suc (length slots.prefix.items)) slots.beyond.entries

-- for the values that are held
abbrev pub WhereSlots : {V : Type 0} → BySlot V → (List (ℕ × V) → Type 0) → Type 0
WhereSlots {V = V} slots P = (entries : List (ℕ × V)) → SlotsStand slots entries → P entries
