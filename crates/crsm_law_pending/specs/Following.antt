-- Following a plan event by event.
use Rattle.std.specs.Prelude.{◌≡◌, ◌≢◌, ◌⊎◌, ℕ, ◌+◌, ◌<◌, ◌≤◌, List, [], ◌∷◌, ◌++◌, length}
use Rattle.crsm_spec.specs.Acts.{Act}
use Rattle.crsm_spec.specs.Moments.{act}
use Rattle.crsm_spec_plan.specs.declared.Plan.{Plan}
use Rattle.crsm_spec_plan.specs.Plans.{FitsPlan, arrival, reading, stamped}
use Rattle.crsm_spec_plan.specs.Timelines.{Timed, IsTimeline, request, tick}
use Rattle.crsm_law_pending.specs.Posts.{Post, posts}
use Rattle.crsm_law_timing.specs.SoFar.{IsNext, IsSoFar, world_after}
use Rattle.crsm_law_pending.specs.Agendas.{IsAgenda, IsPending, IsPut, LacksPosts, delivery_of}

-- The command's arrival is inserted first, and then the tick of each replica that has one.
pub record AgendasBegin : Type 0 where
  pub none : (plan : Plan) → IsPending plan [] 0 []
  pub request : (plan : Plan) (old new : List Timed) → FitsPlan plan → IsPending plan [] 0 old → IsPut (request plan) old new → IsPending plan [] 1 new
  pub tick : (plan : Plan) (k moment : ℕ) (old new : List Timed) → FitsPlan plan → k < plan.n → k ≢ plan.origin → reading plan k moment ≡ stamped plan + 1 → arrival plan k < moment →
      IsPending plan [] (1 + k) old → IsPut (tick plan k moment) old new → IsPending plan [] (2 + k) new
  pub no_tick : (plan : Plan) (k : ℕ) (old : List Timed) → (k ≡ plan.origin) ⊎ (stamped plan < reading plan k (arrival plan k)) →
      IsPending plan [] (1 + k) old → IsPending plan [] (2 + k) old
  pub whole : (plan : Plan) (old : List Timed) → FitsPlan plan → IsPending plan [] (1 + plan.n) old → IsAgenda plan [] old

-- The first event is the next one, its lines name what it sends, and the delivery of each of these datagrams is
-- inserted.
pub record AgendasGoOn : Type 0 where
  pub next : (plan : Plan) (es rest : List Timed) (e : Timed) → FitsPlan plan → IsAgenda plan es (e ∷ rest) → IsNext plan es e
  pub told : (plan : Plan) (es rest : List Timed) (e : Timed) → FitsPlan plan → IsSoFar plan es → IsAgenda plan es (e ∷ rest) →
      LacksPosts plan (es ++ e ∷ []) rest (posts (act (world_after plan es) (Act.One e.does)).lines) e.moment
  pub put : (plan : Plan) (es old new : List Timed) (p : Post) (left : List Post) (moment : ℕ) → FitsPlan plan →
      LacksPosts plan es old (p ∷ left) moment → IsPut (delivery_of plan moment p) old new → LacksPosts plan es new left moment
  pub whole : (plan : Plan) (es pending : List Timed) (moment : ℕ) → LacksPosts plan es pending [] moment → IsAgenda plan es pending

-- Once no event is pending, the events are a timeline; and they are few.
pub record AgendasEnd : Type 0 where
  pub ends : (plan : Plan) (es : List Timed) → FitsPlan plan → IsSoFar plan es → IsAgenda plan es [] → IsTimeline plan es
  pub few : (plan : Plan) (es : List Timed) → FitsPlan plan → IsSoFar plan es → length es ≤ 200016
