-- The first half of a round: each member takes a tick.
use Rattle.std.proofs.Common.{◌≡◌, ℕ, ◌<◌, ◌≤◌, List, [], ◌∷◌, ◌++◌, sym, ◌∙◌, ap, subst}
use Rattle.std.specs.Prelude.{◌^◌, IsTrue, Some, slice_get}
use Rattle.std.proofs.lemmas.Option.{same_Some}
use Rattle.crsm_spec.specs.Types.{Datagram}
use Rattle.crsm_spec.specs.Lists.{Among}
use Rattle.crsm_spec.specs.Log.{known, active}
use Rattle.crsm_spec.specs.Replica.{Replica, Waiting}
use Rattle.crsm_spec.specs.Node.{Turn, turn}
use Rattle.crsm_spec.specs.Step.{Input, step}
use Rattle.crsm_spec.specs.World.{Site, World, whole_step}
use Rattle.crsm_law_epoch.specs.Numbers.{Distinct}
use Rattle.crsm_law_rounds.specs.Rounds.GoesCalmly.{by_tick}
use Rattle.crsm_law_rounds.specs.Members.{AllUp}
use Rattle.crsm_law_rounds.proofs.Going.{up_one}
use Rattle.crsm_law_rounds.proofs.Links.{numbers}
use Rattle.crsm_law_cluster.specs.Clusters.{Outgoing, outgoing_of}
use Rattle.crsm_law_calm.proofs.Events.{tick_turn}
use Rattle.crsm_law_calm.proofs.Halves.{Turned, Turns}
use Rattle.crsm_law_calm.proofs.Serving.{AreServed, served_on}

-- Member k, which is this one in v, has its tick before it; or behind it, and has handed out what its step did.
pub data Stage (k reading : ℕ) (before : List Outgoing) (start : Replica) : Replica → List (Turn × ℕ) → List Outgoing → Type 0 where
  ahead : Stage k reading before start start ((Turn.Tick, reading) ∷ []) before
  behind : Stage k reading before start (step start Input.Ticked reading).replica [] (before ++ outgoing_of (step start Input.Ticked reading))

module _ (n e : ℕ) (ms : List ℕ) (most : n ≤ 15) (distinct : Distinct ms) (small : (k : ℕ) → Among ms k → k ≤ 14) (base : List (ℕ × Datagram)) (v : World) (h : AllUp n e ms v)
    (at : ℕ → ℕ) (asked : ℕ → List Waiting) (epochs : (k : ℕ) → Among ms k → (c : Waiting) → Among (asked k) c → c.entry.epoch ≡ e) (before : ℕ → List Outgoing) (M : World → Type 0)
    (ticks_keep : (w : World) (k t : ℕ) (r : Replica) → t < 2 ^ 64 → slice_get w.sites k ≡ Some (Site.Up r) → IsTrue (active r.log) → M w → M (whole_step w k (step r Input.Ticked t)).after) where
  abbrev pub IsTheTick : ℕ → Turn × ℕ → Type 0
  IsTheTick k t = (t ≡ (Turn.Tick, at k)) × (at k < 2 ^ 64)

  abbrev pub Ticks : ℕ → Replica → List (Turn × ℕ) → List Outgoing → Type 0
  Ticks k r todo made = AreServed (asked k) k r made × ((start : Replica) × (slice_get v.sites k ≡ Some (Site.Up start)) × Stage k (at k) (before k) start r todo made)

  stage_on : (k : ℕ) (start r : Replica) (t : Turn × ℕ) (rest : List (Turn × ℕ)) (made : List Outgoing) → Stage k (at k) (before k) start r (t ∷ rest) made →
      Stage k (at k) (before k) start (step r Input.Ticked (at k)).replica rest (made ++ outgoing_of (step r Input.Ticked (at k)))
  stage_on k start _ _ _ _ ahead = behind

  pub ticking : Turns n e ms most distinct small base v h IsTheTick (λ ts. M) Ticks
  ticking w ts g up spelt m k in_k r r_up t ok rest made q short =
      let o = up.member k in_k in
      let one = up_one o.0 r (same_Some _ _ (sym o.1.up ∙ r_up)) in
      let runs : IsTrue (active r.log) = subst (λ (z : Replica). IsTrue (active z.log)) one o.1.runs in
      let knows : known r.log ≡ e = ap (λ (z : Replica). known z.log) (sym one) ∙ o.1.knows in
      let me : r.me ≡ k = ap (λ (z : Replica). z.me) (sym one) ∙ (numbers n e ms w up k o.0 o.1).0 in
      let is : turn r t ≡ step r Input.Ticked (at k) = ap (turn r) ok.0 ∙ tick_turn r (at k) in
      subst (λ x. Turned n e ms most distinct small base v h IsTheTick (λ ts. M) Ticks w k x rest made) (sym is) (record {
        ticks = k ∷ ts;
        goes = by_tick k (at k) r ok.1 g r_up runs;
        holds = ticks_keep w k (at k) r ok.1 r_up runs m;
        now = (served_on (asked k) k e r Input.Ticked (at k) made runs me knows (epochs k in_k) q.0, (q.1.0, q.1.1, stage_on k q.1.0 r t rest made q.1.2));
      })
