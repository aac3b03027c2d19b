-- The events of a plan that have happened, and the event that can happen next.
use Rattle.std.specs.Prelude.{◌≡◌, ◌≤◌, List, [], ◌∷◌, ◌++◌, None}
use Rattle.crsm_spec.specs.Lists.{Among}
use Rattle.crsm_spec.specs.World.{World, begin}
use Rattle.crsm_spec.specs.Acts.{Act, FitsAct}
use Rattle.crsm_spec.specs.Possible.{possible}
use Rattle.crsm_spec.specs.Run.{ArePossible, after_acts}
use Rattle.crsm_spec_plan.specs.declared.Plan.{Plan}
use Rattle.crsm_spec_plan.specs.Plans.{FitsPlan}
use Rattle.crsm_spec_plan.specs.Timelines.{Timed, IsDue, IsTimeline, Precedes, acts_of}

-- The event has to happen after these and has not, and all that has to happen before it has.
pub record IsNext (plan : Plan) (es : List Timed) (e : Timed) : Type 0 where
  pub due : IsDue plan es e
  pub not_yet : Among es e → ⊥
  pub earliest : (f : Timed) → IsDue plan es f → Precedes f e → Among es f

-- events that have happened, each of which was the next
pub data IsSoFar (plan : Plan) : List Timed → Type 0 where
  nothing : IsSoFar plan []
  more : {es : List Timed} (e : Timed) → IsSoFar plan es → IsNext plan es e → IsSoFar plan (es ++ e ∷ [])

-- the world after events
unfoldable pub world_after : Plan → List Timed → World
world_after plan es = after_acts (begin plan.n) (acts_of es)

-- a schedule can express the event, it is possible here, and its moment is within bounds
pub record CanHappen (w : World) (e : Timed) : Type 0 where
  pub fits : FitsAct (Act.One e.does)
  pub possible_here : possible w (Act.One e.does) ≡ None
  pub moment : e.moment ≤ 3000000000000

-- The events that have happened were possible, and so is the next one.
pub record EventsCanHappen : Type 0 where
  pub so_far : (plan : Plan) (es : List Timed) → FitsPlan plan → IsSoFar plan es → ArePossible (begin plan.n) (acts_of es)
  pub next : (plan : Plan) (es : List Timed) (e : Timed) → FitsPlan plan → IsSoFar plan es → IsNext plan es e → CanHappen (world_after plan es) e

-- Once all that has to happen has happened, it is a timeline; and each timeline arises so.
pub record EventsEndWhole : Type 0 where
  pub whole : (plan : Plan) (es : List Timed) → FitsPlan plan → IsSoFar plan es → ((e : Timed) → IsDue plan es e → Among es e) → IsTimeline plan es
  pub so_far : (plan : Plan) (es : List Timed) → IsTimeline plan es → IsSoFar plan es
