-- The laws of drawn events.
use Rattle.std.specs.Prelude.{◌≡◌, ◌≤◌, ◌<◌, ◌^◌, ℕ, false, List, None}
use Rattle.std.specs.List.{AllByRecursion}
use Rattle.crsm_sim_generator.specs.Drawing.{drawn_next}
use Rattle.crsm_sim_generator.specs.declared.drawing.Drawing.{Drawing}
use Rattle.crsm_spec.specs.Acts.{Act, FitsAct}
use Rattle.crsm_spec.specs.Possible.{possible}
use Rattle.crsm_spec.specs.Run.{ArePossible, last_world}
use Rattle.crsm_spec.specs.World.{World, begin, is_full}
use Rattle.crsm_law_draws.specs.Drawn.{drawn}
use Rattle.crsm_world.specs.Doing.{act_of}
use Rattle.crsm_world.specs.Schedule.{acts_of}
use Rattle.crsm_world.specs.Seen.{view_of}
use Rattle.crsm_law_draws.specs.Founders.{HasFoundersAlone, IsNext, StartsAFounder}

-- An event drawn for a world of the initial replicas alone is possible there, if the world is not full.
abbrev pub DrawnArePossible : Type 0
DrawnArePossible =
    (n : ℕ) (w : World) (s : Drawing) → HasFoundersAlone n w → is_full w ≡ false → possible w (act_of (drawn_next n (view_of w) s).0) ≡ None

-- A possible run that starts no replica but the first n leads to a world of these alone, which count majorities over
-- all n.
abbrev pub FoundersStay : Type 0
FoundersStay =
    (n : ℕ) (acts : List Act) → 1 ≤ n → n ≤ 15 → ArePossible (begin n) acts → AllByRecursion (StartsAFounder n) acts → HasFoundersAlone n (last_world n acts)

-- After such a run the next drawn event is possible if the world is not full, and starts no other replica.
abbrev pub DrawnRunsGoOn : Type 0
DrawnRunsGoOn =
    (n : ℕ) (acts : List Act) (s : Drawing) → 1 ≤ n → n ≤ 15 → ArePossible (begin n) acts → AllByRecursion (StartsAFounder n) acts →
    is_full (last_world n acts) ≡ false → IsNext n (last_world n acts) (act_of (drawn_next n (view_of (last_world n acts)) s).0)

-- the client numbers in the generator's state have 64 bits
abbrev pub HasSmallNumbers : Drawing → Type 0
HasSmallNumbers s = AllByRecursion (λ number. number < 2 ^ 64) s.numbers

-- After such a run a schedule line can express the next drawn event, and the generator's numbers stay within 64 bits.
abbrev pub DrawnFitLines : Type 0
DrawnFitLines =
    (n : ℕ) (acts : List Act) (s : Drawing) → 1 ≤ n → n ≤ 15 → ArePossible (begin n) acts → AllByRecursion (StartsAFounder n) acts →
    is_full (last_world n acts) ≡ false → HasSmallNumbers s →
    FitsAct (act_of (drawn_next n (view_of (last_world n acts)) s).0) × HasSmallNumbers (drawn_next n (view_of (last_world n acts)) s).1

-- A whole run drawn from a seed is possible: a line can express each event, and it is possible where it happens.
abbrev pub DrawnRunsArePossible : Type 0
DrawnRunsArePossible = (number n steps : ℕ) → 1 ≤ n → n ≤ 15 → ArePossible (begin n) (acts_of (drawn number n steps))
