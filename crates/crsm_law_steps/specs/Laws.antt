-- The laws of moments and runs.
use Rattle.std.specs.Prelude.{◌≡◌, ◌⊎◌, ℕ, ◌<◌, IsTrue, false, List, [], ◌∷◌, length}
use Rattle.std.specs.List.{AllByRecursion}
use Rattle.crsm_spec.specs.Types.{Rec, Line}
use Rattle.crsm_spec.specs.Log.{Log}
use Rattle.crsm_spec.specs.Fits.{fits}
use Rattle.crsm_spec.specs.Replica.{Replica}
use Rattle.crsm_spec.specs.Draft.{begun}
use Rattle.crsm_spec.specs.Clients.{commits, replies}
use Rattle.crsm_spec.specs.Frames.{owed_oks}
use Rattle.crsm_spec.specs.Step.{Input, on_input, idle_at, step}
use Rattle.crsm_spec.specs.World.{World, Moment, log_at, begin}
use Rattle.crsm_spec.specs.Acts.{Act}
use Rattle.crsm_spec.specs.Run.{ArePossible, moments_of_run, all_worlds, last_world}
use Rattle.crsm_law_steps.specs.Happenings.{IsReached, GoOn, Ends}
use Rattle.crsm_fact_log.specs.Logs.{Extends}

-- ---- logs

-- each replica's log in the first world is extended by that in the second
abbrev pub LogsGoOn : World → World → Type 0
LogsGoOn v w = (k : ℕ) → Extends (log_at v k) (log_at w k)

-- No log of any run ever loses a record: each log is extended by the one in the last world.
abbrev pub LogsGrow : Type 0
LogsGrow =
    (n : ℕ) (acts : List Act) → ArePossible (begin n) acts → AllByRecursion (λ w. LogsGoOn w (last_world n acts)) (all_worlds n acts)

-- ---- stops

-- If a step's batch is not kept, none of its datagrams and replies is sent: either its records are on the disk when the
-- moment is over, or the network is unchanged and the only line is that the replica is down.
abbrev pub KeptBeforeSent : Type 0
KeptBeforeSent =
    (w : World) (k : ℕ) (r : Replica) (input : Input) (reading : ℕ) (m : Moment) → k < length w.sites → Ends w k (step r input reading) m →
    (log_at m.after k ≡ (step r input reading).replica.log) ⊎ ((m.after.packets ≡ w.packets) × (m.lines ≡ Line.Down k ∷ []))

-- ---- runs

-- Every moment of a run can happen in its world, so happenings reach every world of the run.
pub record IsRunOf (n : ℕ) (acts : List Act) : Type 0 where
  pub goes_on : GoOn (begin n) (moments_of_run n acts)
  pub reached : AllByRecursion (IsReached n) (all_worlds n acts)

abbrev pub RunsAreReached : Type 0
RunsAreReached = (n : ℕ) (acts : List Act) → ArePossible (begin n) acts → IsRunOf n acts
