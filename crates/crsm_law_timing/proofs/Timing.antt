-- Each timeline of a plan is possible, and each replica executes the command at the moment that the plan gives.
use Rattle.std.proofs.Common.{◌≡◌, ◌≢◌, ℕ, ◌<◌, List, [], ◌∷◌, refl, sym, ◌∙◌, ap, subst, inl, inr}
use Rattle.std.proofs.lemmas.Bool.{cases_eq}
use Rattle.crsm_spec.specs.Lists.{Among}
use Rattle.crsm_spec_plan.specs.declared.Plan.{Plan}
use Rattle.crsm_spec_plan.specs.Plans.{FitsPlan, commit_at}
use Rattle.crsm_spec_plan.specs.Timelines.{Timed, exec_moments, request, delivery, IsDue, IsTimeline}
use Rattle.crsm_law_timing.specs.Commits.{TimelinesArePossible, CommandsCommitInTime}
use Rattle.crsm_law_timing.proofs.Local.{Part, IsComplete, IsFirst}
use Rattle.crsm_law_timing.proofs.Worlds.{at}
use Rattle.crsm_law_timing.proofs.Standing.{execs_in, Actor, Stands}
use Rattle.crsm_law_timing.proofs.Cases.{not_first}
use Rattle.crsm_law_timing.proofs.Deliveries.{tick_due}
use Rattle.crsm_law_timing.proofs.SoFar.{events_can_happen, reached, timeline_so_far}

pub timelines_are_possible : TimelinesArePossible
timelines_are_possible plan es fit line = events_can_happen.so_far plan es fit (timeline_so_far plan es line)

-- ---- the end

module _ (plan : Plan) (es : List Timed) (fit : FitsPlan plan) (line : IsTimeline plan es) where
  stands : Stands plan es (at plan es)
  stands = reached plan es fit (timeline_so_far plan es line)

  abbrev who : (k : ℕ) → k < plan.n → Actor plan es (at plan es) k
  who k lt = stands.actors k lt

  origin_spoke : IsFirst (who plan.origin fit.origin).part → ⊥
  origin_spoke =
      let o = (who plan.origin fit.origin).facts.origin refl in
      not_first (who plan.origin fit.origin).part (o.begins (line.complete (request plan) IsDue.Comes)) o.owes

  taken_from : (m k : ℕ) (m_lt : m < plan.n) (k_lt : k < plan.n) → m ≢ k → (IsFirst (who m m_lt).part → ⊥) → Among (who k k_lt).replica.taken m
  taken_from m k m_lt k_lt ne spoke =
      let t = (who m m_lt).facts.spoke spoke k k_lt (λ q. ne (sym q)) in
      let d = line.complete (delivery plan t.0 t.1) (IsDue.Arrives t.0 t.1 t.2) in
      subst (λ j. Among (who k k_lt).replica.taken j) t.3.from ((who k k_lt).facts.took t.0 t.1 t.2 t.3.to t.3.frame d)

  all_spoke : (k : ℕ) (lt : k < plan.n) → IsFirst (who k lt).part → ⊥
  all_spoke k lt = elim (cases_eq k plan.origin) [
    | inl q ↦ (let o = (who k lt).facts.origin q in not_first (who k lt).part (o.begins (line.complete (request plan) IsDue.Comes)) o.owes)
    | inr ne ↦ (let o = (who k lt).facts.other ne in
        not_first (who k lt).part (o.had (taken_from plan.origin k fit.origin lt (λ q. ne (sym q)) origin_spoke))
        (λ z. (o.owes z).1 (line.complete _ (tick_due plan es k lt ne (o.owes z).0))))
  ]

  complete : (k : ℕ) (lt : k < plan.n) → IsComplete plan k (who k lt).replica
  complete k lt m m_lt ne = taken_from m k m_lt lt ne (all_spoke m m_lt)

  it_commits : (k : ℕ) (lt : k < plan.n) → exec_moments plan k es ≡ commit_at plan k ∷ []
  it_commits k lt = go (who k lt).part refl
    where
      go : (p : Part) → (who k lt).part ≡ p → exec_moments plan k es ≡ commit_at plan k ∷ []
      go Part.Bare q = absurd (all_spoke k lt (subst IsFirst (sym q) tt))
      go Part.Owing q = absurd (all_spoke k lt (subst IsFirst (sym q) tt))
      go (Part.Passed t) q = absurd ((who k lt).unfinished t q (complete k lt))
      go (Part.Done t) q = (who k lt).execs ∙ ap (execs_in plan k) q

pub commands_commit_in_time : CommandsCommitInTime
commands_commit_in_time plan es fit line i lt = it_commits plan es fit line i lt
