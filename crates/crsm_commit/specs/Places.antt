-- Places in ascending stamps.
use Rattle.std.specs.Prelude.{◌≡◌, ℕ, ◌<◌, ◌≤◌, true, false, List, length, take, drop, slice_index_or}
use Rattle.std.specs.List.{AllByRecursion}
use Rattle.crsm_base.specs.declared.Stamp.{Stamp}
use Rattle.crsm_base.specs.Order.{stamp_lt, stamp_eq}

-- The stamp belongs at this place: those before are not above it, and those behind are.
pub record IsPlace (stamp : Stamp) (stamps : List Stamp) (place : ℕ) : Type 0 where
  pub within : place ≤ length stamps
  pub before : AllByRecursion (λ t. stamp_lt stamp t ≡ false) (take place stamps)
  pub behind : AllByRecursion (λ t. stamp_lt stamp t ≡ true) (drop place stamps)

-- The stamp stands at this place, and at none before.
pub record IsFirst (stamp : Stamp) (stamps : List Stamp) (place : ℕ) : Type 0 where
  pub within : place < length stamps
  pub before : AllByRecursion (λ t. stamp_eq t stamp ≡ false) (take place stamps)
  pub here : stamp_eq (slice_index_or stamps place stamp) stamp ≡ true
