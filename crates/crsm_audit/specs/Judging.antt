-- The searches in accounts.
use Rattle.std.specs.Prelude.{◌≡◌, ◌≢◌, ℕ, ◌<◌, List, Option, Some, None, MatchOption, get_or, slice_get}
use Rattle.crsm_audit.specs.declared.account.Account.{Account}
use Rattle.crsm_audit.specs.declared.origins.Origins.{Origins}
use Rattle.crsm_audit.specs.declared.place.Dropped.{Dropped}
use Rattle.crsm_audit.specs.declared.place.ExecutedEntry.{ExecutedEntry}
use Rattle.crsm_audit.specs.Lists.{Differs, IsWithin}

-- ---- lists

-- The list of this account is the first that differs from the one list, and here it does so first.
pub record IsOdd (accounts : List Account) (one : List (List ℕ)) (i p : ℕ) : Type 0 where
  pub account : Account
  pub there : slice_get accounts i ≡ Some account
  pub differs : Differs account.entries.list one p
  pub before : (j : ℕ) (a : Account) → j < i → slice_get accounts j ≡ Some a → IsWithin a.entries.list one

-- each list is within the one list
abbrev pub AreWithin : List Account → List (List ℕ) → Type 0
AreWithin accounts one = (j : ℕ) (a : Account) → slice_get accounts j ≡ Some a → IsWithin a.entries.list one

-- ---- origins

-- no account is of node k
abbrev pub IsOfNone : List Account → ℕ → Type 0
IsOfNone accounts k = (j : ℕ) (a : Account) → slice_get accounts j ≡ Some a → a.me ≢ k

-- this account is the last one of node k
pub record IsLast (accounts : List Account) (k i : ℕ) : Type 0 where
  pub account : Account
  pub there : slice_get accounts i ≡ Some account
  pub me : account.me ≡ k
  pub last : (j : ℕ) (a : Account) → i < j → slice_get accounts j ≡ Some a → a.me ≢ k

-- the last account of each node is known
abbrev pub OriginsStand : List Account → Origins → Type 0
OriginsStand accounts o = (k : ℕ) → k < 15 → MatchOption (get_or o.last k None) (IsOfNone accounts k) (IsLast accounts k)

-- node k has an account, and the last one never held these bytes
pub record HasNever (accounts : List Account) (k : ℕ) (bytes : List ℕ) : Type 0 where
  pub i : ℕ
  pub last : IsLast accounts k i
  pub never : (p : ℕ) → slice_get last.account.entries.held p ≢ Some bytes

-- the same of what the one list has at this place
pub record HasNeverAt (accounts : List Account) (one : List (List ℕ)) (k p : ℕ) : Type 0 where
  pub bytes : List ℕ
  pub there : slice_get one p ≡ Some bytes
  pub never : HasNever accounts k bytes

-- the origin of the entry at this place has never held it
pub record StrangeAt (accounts : List Account) (one : List (List ℕ)) (places : List ExecutedEntry) (p : ℕ) : Type 0 where
  pub place : ExecutedEntry
  pub named : slice_get places p ≡ Some place
  pub never : HasNeverAt accounts one place.stamp.origin p

-- this place is the first of these
pub record IsFirstStrange (accounts : List Account) (one : List (List ℕ)) (places : List ExecutedEntry) (p : ℕ) : Type 0 where
  pub strange : StrangeAt accounts one places p
  pub before : (q : ℕ) → q < p → StrangeAt accounts one places q → ⊥

-- the index is that of the first strange entry, or there is none
abbrev pub IsStranger : List Account → List (List ℕ) → List ExecutedEntry → Option ℕ → Type 0
IsStranger accounts one places found = MatchOption found ((p : ℕ) → StrangeAt accounts one places p → ⊥) (IsFirstStrange accounts one places)

-- ---- dropped commands

-- one of the places has this name
pub record IsNamed (places : List ExecutedEntry) (d : Dropped) : Type 0 where
  pub p : ℕ
  pub place : ExecutedEntry
  pub there : slice_get places p ≡ Some place
  pub epoch : place.epoch ≡ d.epoch
  pub stamp : place.stamp ≡ d.stamp

-- none of these is named
abbrev pub NoneNamed : List ExecutedEntry → List Dropped → Type 0
NoneNamed places dropped = (q : ℕ) (d : Dropped) → slice_get dropped q ≡ Some d → IsNamed places d → ⊥

-- the first of these that is named is of this line
pub record IsFirstNamed (places : List ExecutedEntry) (dropped : List Dropped) (line : ℕ) : Type 0 where
  pub k : ℕ
  pub name : Dropped
  pub there : slice_get dropped k ≡ Some name
  pub line_is : line ≡ name.line
  pub named : IsNamed places name
  pub before : (q : ℕ) (d : Dropped) → q < k → slice_get dropped q ≡ Some d → IsNamed places d → ⊥

-- the line is that of the first that is named, or none is
abbrev pub NamesFirst : List ExecutedEntry → List Dropped → Option ℕ → Type 0
NamesFirst places dropped found = MatchOption found (NoneNamed places dropped) (IsFirstNamed places dropped)

-- this account is the first with one that is named, and this is its line
pub record IsFirstDropped (accounts : List Account) (places : List ExecutedEntry) (i line : ℕ) : Type 0 where
  pub account : Account
  pub there : slice_get accounts i ≡ Some account
  pub first : IsFirstNamed places account.dropped.items line
  pub before : (j : ℕ) (a : Account) → j < i → slice_get accounts j ≡ Some a → NoneNamed places a.dropped.items

-- no account has one
abbrev pub NoneDropped : List Account → List ExecutedEntry → Type 0
NoneDropped accounts places = (j : ℕ) (a : Account) → slice_get accounts j ≡ Some a → NoneNamed places a.dropped.items

-- the account and the line are the first, or no account has one
abbrev pub DropsFirst : List Account → List ExecutedEntry → Option (ℕ × ℕ) → Type 0
DropsFirst accounts places found = MatchOption found (NoneDropped accounts places) (λ first. IsFirstDropped accounts places first.0 first.1)
