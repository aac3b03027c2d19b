-- Whole runs: the effect of acts on the first world, the lines that are seen, and the executed lists.
use Rattle.std.specs.Prelude.{◌≡◌, ℕ, nat_lt, if◌then◌else◌, List, [], ◌∷◌, ◌++◌, length, map, flat_map, fold, Option, None, Some}
use Rattle.crsm_spec.specs.Lists.{numbers_below}
use Rattle.crsm_spec.specs.Acts.{Act, FitsAct}
use Rattle.crsm_mpspec.specs.declared.line.MpLine.{MpLine}
use Rattle.crsm_mpspec.specs.Types.{Value}
use Rattle.crsm_mpspec.specs.Log.{executed}
use Rattle.crsm_mpspec.specs.World.{World, Moment, begin, first_lines, log_at}
use Rattle.crsm_mpspec.specs.Moments.{moments_of, act}
use Rattle.crsm_mpspec.specs.Possible.{possible}

-- the world after acts
unfoldable pub after_acts : World → List Act → World
after_acts w [] = w
after_acts w (a ∷ acts) = after_acts (act w a).after acts

-- each act has a line of text, and is possible in the world of those before
abbrev pub ArePossible : World → List Act → Type 0
ArePossible w [] = Unit {0}
ArePossible w (a ∷ acts) = FitsAct a × (possible w a ≡ None) × ArePossible (act w a).after acts

-- all moments of acts, in order
unfoldable pub moments : World → List Act → List Moment
moments w [] = []
moments w (a ∷ acts) = moments_of w a ++ moments (act w a).after acts

-- the moments of a run
unfoldable pub moments_of_run : ℕ → List Act → List Moment
moments_of_run n acts = moments (begin n) acts

-- the world at the end of a run
unfoldable pub last_world : ℕ → List Act → World
last_world n acts = after_acts (begin n) acts

-- ---- lines

-- A line, and the act that led to it. The first boots are no act.
pub record TraceLine : Type 0 where
  pub by : Option Act
  pub line : MpLine

-- the line, by this act
unfoldable pub traced : Option Act → MpLine → TraceLine
traced a line = record { by = a; line = line }

-- the lines of acts, in order
unfoldable pub told : World → List Act → List TraceLine
told w [] = []
told w (a ∷ acts) = let m = act w a in map (traced (Some a)) m.lines ++ told m.after acts

-- all lines of a run, those of the first boots in front
unfoldable pub seen : ℕ → List Act → List TraceLine
seen n acts = map (traced None) (first_lines n) ++ told (begin n) acts

-- ---- executed lists

-- the first world of a run, and the world after each of its moments
unfoldable pub all_worlds : ℕ → List Act → List World
all_worlds n acts = begin n ∷ map (λ m. m.after) (moments_of_run n acts)

-- the executed list of each replica at each moment, whether it is up or not
unfoldable pub all_lists : ℕ → List Act → List (List Value)
all_lists n acts = flat_map (λ k. map (λ w. executed (log_at w k)) (all_worlds n acts)) (numbers_below n)

-- the longest of these lists, the first among equals
unfoldable pub longest : List (List Value) → List Value
longest lists = fold (λ best vs. if nat_lt (length best) (length vs) then vs else best) [] lists

-- The one list of a run. No replica holds it.
unfoldable pub the_list : ℕ → List Act → List Value
the_list n acts = longest (all_lists n acts)
