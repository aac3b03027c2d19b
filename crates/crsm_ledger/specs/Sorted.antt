-- What is kept of logged entries, by ascending stamp.
use Rattle.std.specs.Prelude.{◌≡◌, ◌<◌, ℕ, false, List, [], ◌∷◌, filter, slice_get, Option, Some, None}
use Rattle.std.specs.List.{AllByRecursion}
use Rattle.crsm_base.specs.Spelling.{FitsEntry}
use Rattle.crsm_spec.specs.Types.{Stamp, Entry}
use Rattle.crsm_base.specs.Order.{stamp_lt}
use Rattle.crsm_ledger.specs.declared.kept.Kept.{Kept}
use Rattle.crsm_ledger.specs.declared.kept.LoggedItem.{LoggedItem}

-- ---- order

-- j has no smaller stamp than i
abbrev pub IsNotBelow : LoggedItem → LoggedItem → Type 0
IsNotBelow i j = stamp_lt j.stamp i.stamp ≡ false

-- none has a smaller stamp than an earlier one
abbrev pub IsSortedByStamp : List LoggedItem → Type 0
IsSortedByStamp [] = Unit {0}
IsSortedByStamp (i ∷ is) = AllByRecursion (IsNotBelow i) is × IsSortedByStamp is

-- an entry that is kept whole has an encoding
abbrev pub FitsKept : Kept → Type 0
FitsKept (Kept.Whole entry) = FitsEntry entry.value
FitsKept (Kept.Executed place) = Unit {0}

-- items by ascending stamp, whose whole entries have encodings
pub record IsLogged (is : List LoggedItem) : Type 0 where
  pub sorted : IsSortedByStamp is
  pub fit : AllByRecursion (λ i. FitsKept i.kept) is

-- the item, marked as that of the executed entry with this index
abbrev pub marked : LoggedItem → ℕ → LoggedItem
marked i place = record { stamp = i.stamp; kept = Kept.Executed place }

-- ---- the entries that are kept

-- this is kept of the entry, where `done` are executed
abbrev pub IsKept : List Entry → Kept → Entry → Type 0
IsKept done (Kept.Whole entry) e = entry.value ≡ e
IsKept done (Kept.Executed place) e = slice_get done place ≡ Some e

-- the item is that of the entry, where `done` are executed
pub record IsKeptFor (done : List Entry) (i : LoggedItem) (e : Entry) : Type 0 where
  pub stamp : i.stamp ≡ e.stamp
  pub kept : IsKept done i.kept e

-- the items are those of the entries, where `done` are executed
abbrev pub AreKeptFor : List Entry → List LoggedItem → List Entry → Type 0
AreKeptFor done [] [] = Unit {0}
AreKeptFor done [] (e ∷ es) = ⊥
AreKeptFor done (i ∷ is) [] = ⊥
AreKeptFor done (i ∷ is) (e ∷ es) = IsKeptFor done i e × AreKeptFor done is es

-- where the entry of what is kept is executed, its place is below this number of executed entries
abbrev pub IsPlaced : ℕ → Kept → Type 0
IsPlaced count (Kept.Whole entry) = Unit {0}
IsPlaced count (Kept.Executed place) = place < count

-- the items above a stamp, of all at none
unfoldable pub items_above : Option Stamp → List LoggedItem → List LoggedItem
items_above None items = items
items_above (Some s) items = filter (λ i. stamp_lt s i.stamp) items
