-- One round: its two halves, one after the other.
use Rattle.std.proofs.Common.{◌≡◌, ℕ, ◌+◌, ◌<◌, ◌≤◌, List, [], ◌∷◌, ◌++◌, length, drop, refl, sym, ◌∙◌, ap, subst, arith, append_assoc}
use Rattle.std.specs.Prelude.{◌^◌, IsTrue, Some, slice_get}
use Rattle.std.specs.Option.{option_map_or}
use Rattle.std.specs.List.{AllByRecursion}
use Rattle.std.proofs.lemmas.List.{append-nil}
use Rattle.std.proofs.lemmas.Option.{same_Some}
use Rattle.crsm_spec.specs.Types.{Datagram}
use Rattle.crsm_spec.specs.Lists.{Among}
use Rattle.crsm_spec.specs.Log.{active}
use Rattle.crsm_spec.specs.Replica.{Replica, Waiting, frames_to, next_from, acked_by, unacked}
use Rattle.crsm_spec.specs.Node.{Turn}
use Rattle.crsm_spec.specs.Step.{Input, step}
use Rattle.crsm_spec.specs.World.{Site, World, whole_step}
use Rattle.crsm_law_steps.specs.Happenings.{IsReached, WasSent}
use Rattle.crsm_law_epoch.specs.Numbers.{Distinct}
use Rattle.crsm_law_bounds.specs.Bounds.{IsSpelt}
use Rattle.crsm_law_bounds.proofs.Worlds.{short_logs_are_spelt}
use Rattle.crsm_law_active.specs.Again.{sent_to}
use Rattle.crsm_law_rounds.specs.Rounds.{GoesCalmly}
use Rattle.crsm_law_rounds.specs.Members.{IsMemberUp, AllUp}
use Rattle.crsm_law_rounds.proofs.Going.{up_one, calm_reached}
use Rattle.crsm_law_rounds.proofs.Round.{up_later, acked_taken, sent_again, frames_left}
use Rattle.crsm_law_cluster.specs.Clusters.{Event, Outgoing, outgoing_of, Process, Host, Cluster, host_at}
use Rattle.crsm_law_cluster.specs.Histories.{clusters_from, last_from}
use Rattle.crsm_law_cluster.specs.HistoryLaws.{HasShortLogs}
use Rattle.crsm_law_lives.specs.Sending.{outs_from}
use Rattle.crsm_law_calm.specs.Calm.{HasKept, HasSent}
use Rattle.crsm_law_calm.specs.Rounds.{turns_of, IsOfMember, to_replica, received_in}
use Rattle.crsm_law_calm.specs.Laws.{waiting_out}
use Rattle.crsm_law_calm.proofs.Events.{last_in}
use Rattle.crsm_law_calm.proofs.Halves.{AtRest, Done, half_done}
use Rattle.crsm_law_calm.proofs.Serving.{AreServed}
use Rattle.crsm_law_calm.proofs.Carrying.{Carried, carried_frames, carried_behind, replica_then, of_draft}
use Rattle.crsm_law_calm.proofs.Ticking.Stage.{ahead, behind}
use Rattle.crsm_law_calm.proofs.Ticking.{Stage, IsTheTick, Ticks, ticking}
use Rattle.crsm_law_calm.proofs.Taking.{IsTake, NoTicks, Takes, taking}

pub waiting_is : (c : Cluster) (k : ℕ) (p : Host) (x : Process) → host_at c k ≡ p → p.process ≡ Some x → waiting_out c k ≡ x.outbox
unfolding waiting_out
waiting_is c k p x e is = ap (λ (q : Host). option_map_or (λ (z : Process). z.outbox) q.process []) e ∙ ap (λ o. option_map_or (λ (z : Process). z.outbox) o []) is

cancel : {A : Type 0} (xs ys zs : List A) → xs ++ ys ≡ xs ++ zs → ys ≡ zs
cancel [] ys zs e = e
cancel (x ∷ xs) ys zs e = cancel xs ys zs (ap (drop 1) e)

stage_done : (k reading : ℕ) (before : List Outgoing) (start r : Replica) (todo : List (Turn × ℕ)) (made : List Outgoing) → Stage k reading before start r todo made → todo ≡ [] →
    ((step start Input.Ticked reading).replica ≡ r) × (made ≡ before ++ outgoing_of (step start Input.Ticked reading))
stage_done k reading before start _ _ _ ahead e = absurd (cc)
stage_done k reading before start _ _ _ behind e = (refl, refl)

-- A first half, from world v: each member has taken its tick, and what it has sent another carries its link.
pub record Ticked (n e : ℕ) (ms : List ℕ) (base : List (ℕ × Datagram)) (v : World) (c : Cluster) (gone : ℕ → List Outgoing) (asked : ℕ → List Waiting) (es : List Event) (at : ℕ → ℕ) (M : World → Type 0) : Type 0 where
  pub world : World
  pub ticks : List ℕ
  pub goes : GoesCalmly (λ k. Among ms k) v ticks world
  pub holds : M world
  pub rest : AtRest n ms base (last_from c es) world
  pub up : AllUp n e ms world
  pub ticked : (k : ℕ) (r : Replica) → Among ms k → IsMemberUp e ms v k r → IsMemberUp e ms world k (step r Input.Ticked (at k)).replica
  pub carry : (k j : ℕ) (r : Replica) → Among ms k → Among ms j → (k ≡ j → ⊥) → IsMemberUp e ms world k r → Carried k j e (length (frames_to r j)) (to_replica j (outs_from k c es)) (acked_by r j)
  pub served : (k : ℕ) (in_k : Among ms k) → AreServed (asked k) k (rest.nodes k in_k).replica ((gone k ++ outs_from k c es) ++ (rest.nodes k in_k).process.outbox)

-- A second half, from world v: each frame that a member had pushed to another there is received.
pub record Taken (n e : ℕ) (ms : List ℕ) (base : List (ℕ × Datagram)) (v : World) (c : Cluster) (gone : ℕ → List Outgoing) (asked : ℕ → List Waiting) (es : List Event) (M : World → Type 0) : Type 0 where
  pub world : World
  pub goes : GoesCalmly (λ k. Among ms k) v [] world
  pub holds : M world
  pub rest : AtRest n ms base (last_from c es) world
  pub spelt : IsSpelt n world
  pub up : AllUp n e ms world
  pub come : (k j : ℕ) (r q : Replica) → Among ms k → Among ms j → (k ≡ j → ⊥) → IsMemberUp e ms v k r → IsMemberUp e ms world j q → length (frames_to r j) ≤ next_from q k
  pub served : (k : ℕ) (in_k : Among ms k) → AreServed (asked k) k (rest.nodes k in_k).replica ((gone k ++ outs_from k c es) ++ (rest.nodes k in_k).process.outbox)

-- all members are up in world v, between halves
module _ (n e : ℕ) (ms : List ℕ) (most : n ≤ 15) (distinct : Distinct ms) (small : (k : ℕ) → Among ms k → k ≤ 14) (base : List (ℕ × Datagram)) (v : World) (h : AllUp n e ms v)
    (c : Cluster) (gone : ℕ → List Outgoing) (rest : AtRest n ms base c v) (asked : ℕ → List Waiting) (epochs : (k : ℕ) → Among ms k → (w : Waiting) → Among (asked k) w → w.entry.epoch ≡ e)
    (served : (k : ℕ) (in_k : Among ms k) → AreServed (asked k) k (rest.nodes k in_k).replica (gone k ++ (rest.nodes k in_k).process.outbox))
    (es : List Event) (own : AllByRecursion (IsOfMember ms) es) (short : (d : Cluster) → Among (clusters_from c es) d → HasShortLogs d) where
  abbrev before : ℕ → List Outgoing
  before k = gone k ++ waiting_out c k

  before_is : (k : ℕ) (in_k : Among ms k) → before k ≡ gone k ++ (rest.nodes k in_k).process.outbox
  before_is k in_k = let o = rest.nodes k in_k in ap (λ z. gone k ++ z) (waiting_is c k (host_at c k) o.process refl (ap (λ (p : Host). p.process) o.host))

  -- the replica of a member in v
  start_is : (k : ℕ) (in_k : Among ms k) (r : Replica) → IsMemberUp e ms v k r → (rest.nodes k in_k).replica ≡ r
  start_is k in_k r m = up_one (rest.nodes k in_k).replica r (same_Some _ _ (sym (rest.nodes k in_k).up ∙ m.up))

  -- ---- ticks

  module _ (at : ℕ → ℕ) (lt : (k : ℕ) → Among ms k → at k < 2 ^ 64) (turns : (k : ℕ) → Among ms k → turns_of k es ≡ (Turn.Tick, at k) ∷ []) (sent : (k : ℕ) → Among ms k → HasSent (last_from c es) k)
      (few : (k j : ℕ) (r : Replica) → Among ms k → Among ms j → (k ≡ j → ⊥) → IsMemberUp e ms v k r → length (unacked r j) ≤ 64) (M : World → Type 0)
      (ticks_keep : (w : World) (k t : ℕ) (r : Replica) → t < 2 ^ 64 → slice_get w.sites k ≡ Some (Site.Up r) → IsTrue (active r.log) → M w → M (whole_step w k (step r Input.Ticked t)).after) (m : M v) where
    abbrev Q : ℕ → Replica → List (Turn × ℕ) → List Outgoing → Type 0
    Q = Ticks n e ms most distinct small base v h at asked epochs before M ticks_keep

    abbrev T : ℕ → Turn × ℕ → Type 0
    T = IsTheTick n e ms most distinct small base v h at asked epochs before M ticks_keep

    ticks_done : Done n e ms most distinct small base v h T (λ ts. M) Q (ticking n e ms most distinct small base v h at asked epochs before M ticks_keep) c es gone
    ticks_done = half_done n e ms most distinct small base v h T (λ ts. M) Q (ticking n e ms most distinct small base v h at asked epochs before M ticks_keep) c es gone rest m
        (λ k in_k. let o = rest.nodes k in_k in (
          served k in_k,
          (
            o.replica,
            o.up,
            subst (Stage k (at k) (before k) o.replica o.replica (turns_of k es)) (before_is k in_k) (subst (λ z. Stage k (at k) (before k) o.replica o.replica z (before k)) (sym (turns k in_k)) ahead),
          ),
        ))
        own (λ k in_k. subst (AllByRecursion (T k)) (sym (turns k in_k)) ((refl, lt k in_k), tt)) short (λ k in_k. let o = sent k in_k in (o.process, o.kept)) (short (last_from c es) (last_in c es))

    abbrev w1 : World
    w1 = ticks_done.world

    ticks_up : AllUp n e ms w1
    ticks_up = up_later n e ms distinct small v w1 h ticks_done.goes (short_logs_are_spelt n w1 most (calm_reached (λ k. Among ms k) v n h.reached ticks_done.goes) ticks_done.rest.short).few

    abbrev node1 : (k : ℕ) → Among ms k → Replica
    node1 k in_k = (ticks_done.rest.nodes k in_k).replica

    -- what a member is, and what it has handed out
    record Behind (k : ℕ) (in_k : Among ms k) (r : Replica) : Type 0 where
      is : (step r Input.Ticked (at k)).replica ≡ node1 k in_k
      outs : outs_from k c es ≡ waiting_out c k ++ outgoing_of (step r Input.Ticked (at k))

    is_behind : (k : ℕ) (in_k : Among ms k) (r : Replica) → IsMemberUp e ms v k r → Behind k in_k r
    is_behind k in_k r mk =
        let q = (ticks_done.now k in_k).1 in
        let o = ticks_done.rest.nodes k in_k in
        let one : q.0 ≡ r = up_one q.0 r (same_Some _ _ (sym q.1 ∙ mk.up)) in
        let d = stage_done k (at k) (before k) q.0 (node1 k in_k) [] ((gone k ++ outs_from k c es) ++ o.process.outbox) q.2 refl in
        let s = sent k in_k in
        let same : s.process ≡ o.process = same_Some s.process o.process (sym s.kept.runs ∙ ap (λ (p : Host). p.process) o.host) in
        let empty : o.process.outbox ≡ [] = subst (λ (p : Process). p.outbox ≡ []) same s.sent in
        record {
          is = ap (λ z. (step z Input.Ticked (at k)).replica) (sym one) ∙ d.0;
          outs = cancel (gone k) (outs_from k c es) (waiting_out c k ++ outgoing_of (step r Input.Ticked (at k)))
              (sym (ap (λ z. (gone k ++ outs_from k c es) ++ z) empty ∙ append-nil (gone k ++ outs_from k c es)) ∙ d.1 ∙ ap (λ z. before k ++ outgoing_of (step z Input.Ticked (at k))) one
              ∙ append_assoc (gone k) (waiting_out c k) (outgoing_of (step r Input.Ticked (at k))));
        }

    have_ticked : (k : ℕ) (r : Replica) → Among ms k → IsMemberUp e ms v k r → IsMemberUp e ms w1 k (step r Input.Ticked (at k)).replica
    have_ticked k r in_k mk =
        let o = ticks_up.member k in_k in
        let here = up_one o.0 (node1 k in_k) (same_Some _ _ (sym o.1.up ∙ (ticks_done.rest.nodes k in_k).up)) in
        subst (IsMemberUp e ms w1 k) (here ∙ sym (is_behind k in_k r mk).is) o.1

    -- what a member has sent another carries its link
    ticks_carry : (k j : ℕ) (r : Replica) → Among ms k → Among ms j → (k ≡ j → ⊥) → IsMemberUp e ms w1 k r → Carried k j e (length (frames_to r j)) (to_replica j (outs_from k c es)) (acked_by r j)
    ticks_carry k j r in_k in_j ne m1 =
        let o = h.member k in_k in
        let x = step o.0 Input.Ticked (at k) in
        let one : x.replica ≡ r = up_one x.replica r (same_Some _ _ (sym (have_ticked k o.0 in_k o.1).up ∙ m1.up)) in
        let a = acked_by x.replica j in
        let fs = drop a (frames_to x.replica j) in
        let size : a + length fs ≡ length (frames_to x.replica j) = frames_left n e ms distinct small w1 ticks_up k j x.replica (have_ticked k o.0 in_k o.1) in
        let list : to_replica j (outs_from k c es) ≡ to_replica j (waiting_out c k) ++ sent_to j x.sends =
        ap (to_replica j) (is_behind k in_k o.0 o.1).outs ∙ replica_then j (waiting_out c k) (outgoing_of x) ∙ ap (λ z. to_replica j (waiting_out c k) ++ z) (of_draft j x) in
        let again = sent_again n e ms distinct small v h k j in_k in_j ne (at k) o.0 o.1 (few k j o.0 in_k in_j ne o.1) in
        let all : Carried k j e (length (frames_to x.replica j)) (sent_to j x.sends) a =
        subst (λ z. Carried k j e z (sent_to j x.sends) a) size (subst (λ l. Carried k j e (a + length fs) l a) (sym again) (carried_frames k j e a fs)) in
        let c1 = carried_behind k j e (length (frames_to x.replica j)) (to_replica j (waiting_out c k)) (sent_to j x.sends) a all in
        subst (λ z. Carried k j e (length (frames_to z j)) (to_replica j (outs_from k c es)) (acked_by z j)) one (subst (λ l. Carried k j e (length (frames_to x.replica j)) l a) (sym list) c1)

    pub first_half : Ticked n e ms base v c gone asked es at M
    first_half = record {
      world = w1;
      ticks = ticks_done.ticks;
      goes = ticks_done.goes;
      holds = ticks_done.holds;
      rest = ticks_done.rest;
      up = ticks_up;
      ticked = have_ticked;
      carry = ticks_carry;
      served = λ k in_k. (ticks_done.now k in_k).0;
    }

  -- ---- what is taken

  module _ (Kind : Datagram → Type 0) (takes : (k : ℕ) → Among ms k → AllByRecursion (IsTake e Kind v k) (turns_of k es)) (kept : (k : ℕ) → Among ms k → (x : Process) × HasKept (last_from c es) k x)
      (come : (k j : ℕ) (r : Replica) → Among ms k → Among ms j → (k ≡ j → ⊥) → IsMemberUp e ms v k r → Carried k j e (length (frames_to r j)) (received_in (turns_of j es)) (acked_by r j)) (M : World → Type 0)
      (takes_keep : (w : World) (k t : ℕ) (r : Replica) (from : ℕ) (d : Datagram) → IsReached n w → t < 2 ^ 64 → slice_get w.sites k ≡ Some (Site.Up r) → WasSent w from k d → Kind d →
      IsSpelt n (whole_step w k (step r (Input.Came from d) t)).after → M w → M (whole_step w k (step r (Input.Came from d) t)).after) (m : M v) where
    abbrev P : ℕ → Replica → List (Turn × ℕ) → List Outgoing → Type 0
    P = Takes n e ms most distinct small base v h asked epochs Kind M takes_keep

    abbrev N : List ℕ → World → Type 0
    N = NoTicks n e ms most distinct small base v h asked epochs Kind M takes_keep

    takes_done : Done n e ms most distinct small base v h (IsTake e Kind v) N P (taking n e ms most distinct small base v h asked epochs Kind M takes_keep) c es gone
    takes_done = half_done n e ms most distinct small base v h (IsTake e Kind v) N P (taking n e ms most distinct small base v h asked epochs Kind M takes_keep) c es gone rest (refl, m)
        (λ k in_k. (
          served k in_k,
          λ i q in_i ne mi. (
            acked_by q k,
            (let le = acked_taken n e ms distinct small v h i k in_i in_k ne q (h.member k in_k).0 mi (h.member k in_k).1 in
                let one = ap (λ z. next_from z i) (start_is k in_k (h.member k in_k).0 (h.member k in_k).1) in omega (arith, le, one)),
            come i k q in_i in_k ne mi,
          ),
        ))
        own takes short kept (short (last_from c es) (last_in c es))

    abbrev w2 : World
    w2 = takes_done.world

    spelt : IsSpelt n w2
    spelt = short_logs_are_spelt n w2 most (calm_reached (λ k. Among ms k) v n h.reached takes_done.goes) takes_done.rest.short

    up2 : AllUp n e ms w2
    up2 = up_later n e ms distinct small v w2 h takes_done.goes spelt.few

    have_come : (k j : ℕ) (r q : Replica) → Among ms k → Among ms j → (k ≡ j → ⊥) → IsMemberUp e ms v k r → IsMemberUp e ms w2 j q → length (frames_to r j) ≤ next_from q k
    unfolding received_in
    have_come k j r q in_k in_j ne mk mj =
        let o = takes_done.rest.nodes j in_j in
        let one = ap (λ z. next_from z k) (up_one o.replica q (same_Some _ _ (sym o.up ∙ mj.up))) in
        let b = (takes_done.now j in_j).1 k r in_k ne mk in
        let le = b.1 in
        let all = b.2 in
        omega (arith, le, all, one)

    pub second_half : Taken n e ms base v c gone asked es M
    second_half = record {
      world = w2;
      goes = subst (λ ts. GoesCalmly (λ k. Among ms k) v ts w2) takes_done.holds.0 takes_done.goes;
      holds = takes_done.holds.1;
      rest = takes_done.rest;
      spelt = spelt;
      up = up2;
      come = have_come;
      served = λ k in_k. (takes_done.now k in_k).0;
    }
