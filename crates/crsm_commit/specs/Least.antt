-- The least of first stamps.
use Rattle.std.specs.Prelude.{◌≡◌, ℕ, ◌<◌, false, List, [], Option, None, Some, if◌then◌else◌, slice_index_or, IfSome}
use Rattle.crsm_base.specs.declared.Stamp.{Stamp}
use Rattle.crsm_base.specs.Order.{stamp_lt}
use Rattle.crsm_spec.specs.Lists.{first_of}

-- the lesser of two stamps, where there are two
abbrev pub lesser_of : Option Stamp → Option Stamp → Option Stamp
lesser_of None b = b
lesser_of (Some s) None = Some s
lesser_of (Some s) (Some t) = if stamp_lt t s then Some t else Some s

-- the second stamp is not below the first
abbrev pub NotBelow : Option Stamp → Option Stamp → Type 0
NotBelow a None = Unit {0}
NotBelow None (Some t) = ⊥
NotBelow (Some s) (Some t) = stamp_lt t s ≡ false

-- the first stamp of a queue
abbrev pub first_at : List (List Stamp) → ℕ → Option Stamp
first_at queues i = first_of (slice_index_or queues i [])

-- the stamp is the first of one of the first n queues
pub record IsFirstOfOne (queues : List (List Stamp)) (n : ℕ) (s : Stamp) : Type 0 where
  pub place : ℕ
  pub within : place < n
  pub here : first_at queues place ≡ Some s

-- It is the first stamp of one of the first n queues, and none of theirs is below it.
pub record IsLeastFirst (first : Option Stamp) (queues : List (List Stamp)) (n : ℕ) : Type 0 where
  pub found : IfSome first (IsFirstOfOne queues n)
  pub least : (i : ℕ) → i < n → NotBelow first (first_at queues i)
