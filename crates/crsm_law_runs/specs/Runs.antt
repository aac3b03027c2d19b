-- Properties of every world of a possible run, and the one list of a run.
use Rattle.std.specs.Prelude.{◌≡◌, ◌⊎◌, ℕ, ◌≤◌, List, []}
use Rattle.std.specs.List.{AllByRecursion}
use Rattle.crsm_spec.specs.Lists.{IsPrefixOf}
use Rattle.crsm_spec.specs.Log.{Log, executed}
use Rattle.crsm_spec.specs.World.{World, begin, log_at}
use Rattle.crsm_spec.specs.Acts.{Act}
use Rattle.crsm_spec.specs.Run.{ArePossible, all_worlds, all_lists, last_world, the_list}
use Rattle.crsm_fact_log.specs.Logs.{Extends}
use Rattle.crsm_law_steps.specs.Laws.{LogsGoOn}
use Rattle.crsm_law_steps.specs.Happenings.{IsReached}
use Rattle.crsm_law_bounds.specs.Bounds.{IsSpelt}

-- a world of a run: happenings reach it, everything in it can be encoded, and the logs of the last world extend its
-- logs
pub record IsOnTheWay (n : ℕ) (acts : List Act) (w : World) : Type 0 where
  pub reached : IsReached n w
  pub spelt : IsSpelt n w
  pub goes_on : LogsGoOn w (last_world n acts)

-- Every world of every possible run of at most 15 replicas is such a world, and so is the last.
abbrev pub WorldsAreOnTheWay : Type 0
WorldsAreOnTheWay =
    (n : ℕ) (acts : List Act) → n ≤ 15 → ArePossible (begin n) acts → AllByRecursion (IsOnTheWay n acts) (all_worlds n acts) × IsOnTheWay n acts (last_world n acts)

-- The one list is empty, or an executed list of some replica; each executed list of the run, and of each log at any
-- moment, is a prefix of it.
pub record IsTheList (n : ℕ) (acts : List Act) : Type 0 where
  pub is : (the_list n acts ≡ []) ⊎ ((k : ℕ) × (log : Log) × Extends log (log_at (last_world n acts) k) × (the_list n acts ≡ executed log))
  pub prefixes : AllByRecursion (λ es. IsPrefixOf es (the_list n acts)) (all_lists n acts)
  pub ends : (k : ℕ) (log : Log) → Extends log (log_at (last_world n acts) k) → IsPrefixOf (executed log) (the_list n acts)

-- In every possible run of at most 15 replicas all executed lists, at any moments, are prefixes of the one list.
abbrev pub ListIsOne : Type 0
ListIsOne = (n : ℕ) (acts : List Act) → n ≤ 15 → ArePossible (begin n) acts → IsTheList n acts
