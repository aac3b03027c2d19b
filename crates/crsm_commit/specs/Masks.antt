-- Masks of replicas, one for each stamp.
use Rattle.std.specs.Prelude.{ℕ, List, map, unwrap_or}
use Rattle.std.specs.Map.{lookup}
use Rattle.std.specs.Simd.Lanes.{mask_l}
use Rattle.crsm_base.specs.declared.Stamp.{Stamp}
use Rattle.crsm_base.specs.Order.{stamp_eq}
use Rattle.crsm_spec.specs.Lists.{numbers_below}
use Rattle.crsm_spec.specs.Ready.{voted}

-- the mask of a stamp, 0 where it has none
abbrev pub mask_at : List (Stamp × ℕ) → Stamp → ℕ
mask_at masks s = unwrap_or (lookup (stamp_eq s) masks) 0

-- the mask whose bit k says whether replica k has voted for the stamp
unfoldable pub mask_of : List (Stamp × ℕ) → Stamp → ℕ
mask_of votes s = mask_l (map (voted votes s) (numbers_below 15))
