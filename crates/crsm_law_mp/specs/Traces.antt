-- A run as the list of its moments: the lines of its transcript, and its worlds.
use Rattle.std.specs.Prelude.{ℕ, List, [], ◌∷◌, ◌++◌, map, None, Some}
use Rattle.crsm_spec.specs.Acts.{Act}
use Rattle.crsm_spec.specs.Safe.{command_of}
use Rattle.crsm_mpspec.specs.World.{World, Moment, begin, first_lines}
use Rattle.crsm_mpspec.specs.Run.{TraceLine, traced}
use Rattle.crsm_law_mp.specs.Happenings.{Happens}

-- the moments of a run of n replicas
pub data Runs (n : ℕ) : List TraceLine → List World → World → Type 0 where
  first : Runs n (map (traced None) (first_lines n)) (begin n ∷ []) (begin n)
  next : {lines : List TraceLine} {worlds : List World} {w : World} {m : Moment} → Runs n lines worlds w → (a : Act) → Happens w (command_of (Some a)) m →
      Runs n (lines ++ map (traced (Some a)) m.lines) (worlds ++ m.after ∷ []) m.after
