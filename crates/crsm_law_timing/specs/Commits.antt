-- The laws of the moment at which a command commits.
use Rattle.std.specs.Prelude.{◌≡◌, ℕ, ◌<◌, List, [], ◌∷◌}
use Rattle.crsm_spec.specs.Lists.{Among}
use Rattle.crsm_spec.specs.World.{begin}
use Rattle.crsm_spec.specs.Run.{ArePossible}
use Rattle.crsm_spec_plan.specs.declared.Plan.{Plan}
use Rattle.crsm_spec_plan.specs.Plans.{FitsPlan, commit_at}
use Rattle.crsm_spec_plan.specs.Timelines.{Timed, IsTimeline, acts_of, exec_moments, tick}

-- Each timeline of a plan is possible.
abbrev pub TimelinesArePossible : Type 0
TimelinesArePossible =
    (plan : Plan) (es : List Timed) → FitsPlan plan → IsTimeline plan es → ArePossible (begin plan.n) (acts_of es)

-- In each timeline of a plan each replica executes one entry, at the moment that the plan gives.
abbrev pub CommandsCommitInTime : Type 0
CommandsCommitInTime =
    (plan : Plan) (es : List Timed) → FitsPlan plan → IsTimeline plan es → (i : ℕ) → i < plan.n →
    exec_moments plan i es ≡ commit_at plan i ∷ []

-- There is a timeline in which a replica waits for its clock.
pub record WaitsForClock : Type 0 where
  pub plan : Plan
  pub events : List Timed
  pub fits : FitsPlan plan
  pub timeline : IsTimeline plan events
  pub replica : ℕ
  pub moment : ℕ
  pub waits : Among events (tick plan replica moment)
