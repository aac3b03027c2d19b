-- The transcript on the way to a world: the lines of the first boots, and those of each moment with its act.
use Rattle.std.specs.Prelude.{ℕ, List, ◌++◌, map, Some, None}
use Rattle.crsm_spec.specs.World.{World, Moment, begin, first_lines}
use Rattle.crsm_spec.specs.Acts.{Act}
use Rattle.crsm_spec.specs.Run.{TraceLine, traced}
use Rattle.crsm_law_steps.specs.Happenings.{Happens, IsLedBy}

pub data IsSeen (n : ℕ) : World → List TraceLine → Type 0 where
  boots : IsSeen n (begin n) (map (traced None) (first_lines n))
  then_on : {w : World} {m : Moment} {lines : List TraceLine} → IsSeen n w lines → (a : Act) (h : Happens w m) → IsLedBy a h →
      IsSeen n m.after (lines ++ map (traced (Some a)) m.lines)
