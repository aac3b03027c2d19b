-- Lists of encoded entries, and their identities.
use Rattle.std.specs.Prelude.{◌≡◌, ◌≢◌, ◌⊎◌, ℕ, ◌<◌, ◌≤◌, nat_lt, if◌then◌else◌, List, [], fold, length, map, Some, slice_get}
use Rattle.std.specs.List.{AllByRecursion}
use Rattle.crsm_base.specs.Spelling.{FitsEntry}
use Rattle.crsm_spec.specs.Types.{Stamp, Entry}
use Rattle.crsm_audit.specs.Accounts.{spelt}
use Rattle.crsm_audit.specs.declared.account.Account.{Account}
use Rattle.crsm_audit.specs.declared.place.Dropped.{Dropped}
use Rattle.crsm_audit.specs.declared.place.ExecutedEntry.{ExecutedEntry}

-- the longer of two lists, the first where they are equally long
unfoldable pub longer : {A : Type 0} → List A → List A → List A
longer best other = if nat_lt (length best) (length other) then other else best

-- the longest list of accounts, the first among equals
unfoldable pub longest_of : List Account → List (List ℕ)
longest_of accounts = fold (λ best a. longer best a.entries.list) [] accounts

-- the list has this element at this place, and the other list has it not there; before it each element is the other's
pub record Differs {A : Type 0} (list one : List A) (p : ℕ) : Type 0 where
  pub element : A
  pub there : slice_get list p ≡ Some element
  pub not_there : slice_get one p ≢ Some element
  pub same : (q : ℕ) → q < p → slice_get one q ≡ slice_get list q

-- each element of the list stands at its place in the other one
abbrev pub IsWithin : {A : Type 0} → List A → List A → Type 0
IsWithin {A} list one = (q : ℕ) (x : A) → slice_get list q ≡ Some x → slice_get one q ≡ Some x

-- the names of an entry
abbrev pub place_of : Entry → ExecutedEntry
place_of e = record { epoch = e.epoch; stamp = e.stamp; client = e.command.client; number = e.command.number }

-- of these entries
abbrev pub places_of : List Entry → List ExecutedEntry
places_of es = map place_of es

-- for the names of entries that have these encodings
abbrev pub WhereNamed : List (List ℕ) → (List ExecutedEntry → Type 0) → Type 0
WhereNamed list P = (es : List Entry) → AllByRecursion FitsEntry es → list ≡ spelt es → P (places_of es)

-- ---- names

-- the first name is before the second: by epoch, then by stamp
abbrev pub IsBeforeName : ℕ → Stamp → ℕ → Stamp → Type 0
IsBeforeName x s y t = x < y ⊎ ((x ≡ y) × (s.time < t.time ⊎ ((s.time ≡ t.time) × (s.origin < t.origin))))

-- each entry is before those that follow
abbrev pub IsAscending : List ExecutedEntry → Type 0
IsAscending places =
    (p q : ℕ) (a b : ExecutedEntry) → slice_get places p ≡ Some a → slice_get places q ≡ Some b → q < p → IsBeforeName b.epoch b.stamp a.epoch a.stamp

-- each entry below `low` is before the name, and none from `high` on is
pub record IsBetween (places : List ExecutedEntry) (name : Dropped) (low high : ℕ) : Type 0 where
  pub below : (q : ℕ) (a : ExecutedEntry) → q < low → slice_get places q ≡ Some a → IsBeforeName a.epoch a.stamp name.epoch name.stamp
  pub above : (q : ℕ) (a : ExecutedEntry) → high ≤ q → slice_get places q ≡ Some a → IsBeforeName a.epoch a.stamp name.epoch name.stamp → ⊥
