-- Each step of a timeline.
use Rattle.std.proofs.Common.{◌≡◌, ◌≢◌, ℕ, ◌<◌, ◌≤◌, List, [], ◌∷◌, ◌++◌, refl, ◌∙◌, ap, inl, inr, Bool, true, false, cond, arith, map}
use Rattle.std.specs.Prelude.{filter, not, ◌==◌, ◌||◌, nat_lt, nat_le, count_by}
use Rattle.std.proofs.lemmas.Bool.{ne_eqb, eq-eqb}
use Rattle.std.proofs.lemmas.Bool.Decides.{nat_tests}
use Rattle.crsm_spec.specs.Choice.{when◌then◌otherwise◌}
use Rattle.crsm_spec.specs.Types.{Stamp, Rec, InEpoch, Datagram}
use Rattle.crsm_spec.specs.Lists.{Among, has, greatest, numbers_below}
use Rattle.crsm_spec.specs.Log.{known, active, members}
use Rattle.crsm_spec.specs.Replica.{Replica, members_of, next_from, latest_from}
use Rattle.crsm_spec.specs.Draft.{Draft, begun, send, count_vote}
use Rattle.crsm_spec.specs.Clients.{commits, replies}
use Rattle.crsm_spec.specs.Frames.{time_of, is_astray, is_wrong, is_odd_frame, ack, receive, take_frame, on_frame, owed_oks}
use Rattle.crsm_spec.specs.Step.{Input, if_fitting, on_input, on_datagram, idle_at, step}
use Rattle.crsm_fact_log.proofs.Lists.{has_in}
use Rattle.crsm_law_epoch.proofs.Words.{count_other}
use Rattle.crsm_law_active.proofs.Ending.{on_true, on_false}
use Rattle.crsm_spec_plan.specs.declared.Plan.{Plan}
use Rattle.crsm_spec_plan.specs.Plans.{FitsPlan, stamped}
use Rattle.crsm_spec_plan.specs.Timelines.{is_exec}
use Rattle.crsm_law_timing.proofs.Local.{Part, Plays, the_stamp, is_active, is_known, are_members, is_below}
use Rattle.crsm_law_timing.proofs.Paying.{frames, pays_not, pays}

-- What a step comes to before its end: the part that the replica plays, whom it has heard, what it keeps and sends.
pub record Turned (plan : Plan) (k : ℕ) (p : Part) (heard : List ℕ) (kept : List Rec) (out : List (ℕ × Datagram)) (x : Draft) : Type 0 where
  pub draft : Draft
  pub is : x ≡ replies (commits draft)
  pub plays : Plays plan k p draft.replica
  pub taken : draft.replica.taken ≡ heard
  pub batch : draft.batch ≡ kept
  pub sends : draft.sends ≡ out
  pub quiet : (i : ℕ) → filter (is_exec i) draft.lines ≡ []
  pub excess : draft.excess ≡ []
  pub replies : draft.replies ≡ []

-- what the rule of an input leaves
pub record Ruled (plan : Plan) (k : ℕ) (p : Part) (heard : List ℕ) (kept : List Rec) (out : List (ℕ × Datagram)) (y : Draft) : Type 0 where
  pub plays : Plays plan k p y.replica
  pub taken : y.replica.taken ≡ heard
  pub batch : y.batch ≡ kept
  pub sends : y.sends ≡ out
  pub quiet : (i : ℕ) → filter (is_exec i) y.lines ≡ []
  pub excess : y.excess ≡ []
  pub replies : y.replies ≡ []

pub then_not_paid : (plan : Plan) (k t : ℕ) (p : Part) (heard : List ℕ) (kept : List Rec) (out : List (ℕ × Datagram)) (x y : Draft) → 1 ≤ stamped plan → (p ≡ Part.Owing → t ≤ stamped plan) →
    x ≡ replies (commits (owed_oks t y)) → Ruled plan k p heard kept out y → Turned plan k p heard kept out x
then_not_paid plan k t p heard kept out x y pos le is r =
    let n = pays_not plan k p y t pos r.plays le in
    record {
      draft = owed_oks t y;
      is = is;
      plays = n.plays;
      taken = n.silent.taken ∙ r.taken;
      batch = n.silent.batch ∙ r.batch;
      sends = n.sends ∙ r.sends;
      quiet = λ i. ap (filter (is_exec i)) n.silent.lines ∙ r.quiet i;
      excess = n.silent.excess ∙ r.excess;
      replies = n.silent.replies ∙ r.replies;
    }

pub then_paid : (plan : Plan) (k t : ℕ) (heard : List ℕ) (kept : List Rec) (out : List (ℕ × Datagram)) (x y : Draft) → 1 ≤ stamped plan → stamped plan < t →
    x ≡ replies (commits (owed_oks t y)) → Ruled plan k Part.Owing heard kept out y →
    Turned plan k (Part.Passed t) heard kept (out ++ frames plan k (InEpoch.PrepareOk (the_stamp plan) t)) x
then_paid plan k t heard kept out x y pos lt is r =
    let n = pays plan k y t pos r.plays lt in
    record {
      draft = owed_oks t y;
      is = is;
      plays = n.plays;
      taken = n.silent.taken ∙ r.taken;
      batch = n.silent.batch ∙ r.batch;
      sends = n.sends ∙ ap (λ l. l ++ frames plan k (InEpoch.PrepareOk (the_stamp plan) t)) r.sends;
      quiet = λ i. ap (filter (is_exec i)) n.silent.lines ∙ r.quiet i;
      excess = n.silent.excess ∙ r.excess;
      replies = n.silent.replies ∙ r.replies;
    }

-- a step on a datagram whose rule gives this
pub steps_to : (r : Replica) (a t : ℕ) (d : Datagram) (y : Draft) → on_input (Input.Came a d) t (begun r) ≡ y → y.fitting ≡ true → step r (Input.Came a d) t ≡ replies (commits (owed_oks t y))
unfolding step idle_at if_fitting
steps_to r a t d y e fit = ap (λ z. replies (commits (owed_oks t z))) (ap (λ z. when z.fitting then z otherwise begun r) e ∙ on_true y.fitting y (begun r) fit)

-- ---- frames

pub not_astray : (r : Replica) (k m : ℕ) → r.me ≡ k → m ≤ 14 → m ≢ k → is_astray r m k ≡ false
unfolding is_astray
not_astray r k m me le ne =
    ap (λ j. (nat_lt 14 m || m == j) || not (k == j)) me
    ∙ ap (λ (b : Bool). (nat_lt 14 m || b) || not (k == k)) (ne_eqb m k ne)
    ∙ ap (λ (b : Bool). (nat_lt 14 m || false) || not b) (eq-eqb k k refl)
    ∙ small (nat_lt 14 m) (grind (arith, nat_tests))
  where
    small : (b : Bool) → b ≡ false → ((b || false) || not true) ≡ false
    small true e = e
    small false e = refl

none_of : (m : ℕ) (hs : List (ℕ × ℕ)) → ((t : ℕ) → Among hs (m, t) → ⊥) → filter (λ h. h.0 == m) hs ≡ []
none_of m [] h = refl
none_of m (x ∷ hs) h =
    let rest = none_of m hs (λ t a. h t (inr a)) in
    ap (λ (b : Bool). cond b (x ∷ filter (λ h. h.0 == m) hs) (filter (λ h. h.0 == m) hs)) (ne_eqb x.0 m (λ e. h x.1 (inl (same x m e)))) ∙ rest
  where
    same : (x : ℕ × ℕ) (m : ℕ) → x.0 ≡ m → x ≡ (m, x.1)
    same x m e = ap (λ (z : ℕ). (z, x.1)) e

none_heard : (m : ℕ) (hs : List (ℕ × ℕ)) → ((t : ℕ) → Among hs (m, t) → ⊥) → latest_from hs m ≡ 0
unfolding latest_from greatest
none_heard m hs h = ap (λ l. greatest (map (λ h. h.1) l)) (none_of m hs h)

none_taken : (m : ℕ) (ks : List ℕ) → (Among ks m → ⊥) → count_by (λ j. j == m) ks ≡ 0
none_taken m [] h = refl
none_taken m (k ∷ ks) h = count_other k m ks (λ e. h (inl e)) ∙ none_taken m ks (λ a. h (inr a))

-- the frame is neither old nor wrong
abbrev pub IsRight : Plan → ℕ → InEpoch → Type 0
IsRight plan m p = (1 ≤ time_of p) × ((r : Replica) → known r.log ≡ 0 → members_of r ≡ numbers_below plan.n → is_wrong r m p ≡ false)

pub takes : (plan : Plan) (k m t : ℕ) (p : Part) (payload : InEpoch) (r : Replica) → Plays plan k p r → m < plan.n → plan.n ≤ 15 → m ≢ k → (Among r.taken m → ⊥) → IsRight plan m payload →
    on_input (Input.Came m (Datagram.Frame m k 0 0 payload)) t (begun r) ≡ take_frame m payload (begun r)
unfolding on_input on_datagram on_frame begun next_from is_odd_frame members_of
takes plan k m t p payload r h lt most ne new right =
    on_false (is_astray r m k) _ _ (not_astray r k m h.me (omega (arith, lt, most)) ne)
    ∙ on_false (nat_lt 0 (known r.log)) _ _ (ap (λ e. nat_lt 0 e) knows)
    ∙ on_false (nat_lt (known r.log) 0) _ _ (ap (λ e. nat_lt e 0) knows)
    ∙ on_false (not (active r.log) || not (has (members r.n r.log) m)) _ _
    (ap (λ (b : Bool). not b || not (has (members r.n r.log) m)) runs ∙ ap (λ (b : Bool). not true || not b) (ap (λ l. has l m) are ∙ has_in (numbers_below plan.n) m (is_below plan.n m lt)))
    ∙ on_false (not (0 == count_by (λ j. j == m) r.taken)) _ _ (ap (λ i. not (0 == i)) (none_taken m r.taken new))
    ∙ on_false (nat_le (time_of payload) (latest_from r.received m) || is_wrong r m payload) _ _
    (ap (λ i. nat_le (time_of payload) i || is_wrong r m payload) (none_heard m r.received (λ u a. new (h.took m u a)))
    ∙ ap (λ (b : Bool). b || is_wrong r m payload) late ∙ right.1 r knows are)
  where
    knows : known r.log ≡ 0
    knows = ap known h.log ∙ is_known plan k p

    runs : active r.log ≡ true
    runs = ap active h.log ∙ is_active plan k p

    are : members r.n r.log ≡ numbers_below plan.n
    are = ap (λ n. members n r.log) h.n ∙ ap (members plan.n) h.log ∙ are_members plan k p

    late : nat_le (time_of payload) 0 ≡ false
    late = let pos = right.0 in grind (arith, nat_tests, pos)

unfoldable pub ack_of : Replica → ℕ → ℕ
ack_of r m = next_from (record r { taken = m ∷ r.taken }) m

-- ---- an acknowledgement of another replica

ok_right : (plan : Plan) (m u : ℕ) → plan.origin < plan.n → 1 ≤ u → IsRight plan m (InEpoch.PrepareOk (the_stamp plan) u)
unfolding time_of is_wrong
ok_right plan m u lt pos = (pos, λ r e are. ap (λ l. not (has l plan.origin)) are ∙ ap not (has_in (numbers_below plan.n) plan.origin (is_below plan.n plan.origin lt)))

ok_ruled : (plan : Plan) (k m u : ℕ) (p : Part) (r : Replica) → Plays plan k p r → m ≢ k → stamped plan ≤ u →
    Ruled plan k p (m ∷ r.taken) [] ((m, Datagram.Ack k m 0 (ack_of r m)) ∷ []) (take_frame m (InEpoch.PrepareOk (the_stamp plan) u) (begun r))
unfolding take_frame receive ack send count_vote begun time_of ack_of next_from
ok_ruled plan k m u p r h ne le = record {
  plays = record {
    me = h.me;
    n = h.n;
    log = h.log;
    issued = h.issued;
    owed = h.owed;
    past = h.past;
    pushed = h.pushed;
    took = took;
    heard = heard;
    votes = votes;
    own = λ l. (inr (h.own l).0, inr (h.own l).1);
    apart = apart;
  };
  taken = refl;
  batch = refl;
  sends = ap (λ j. (m, Datagram.Ack j m (known r.log) (count_by (λ j. j == m) (m ∷ r.taken))) ∷ []) h.me ∙ ap (λ e. (m, Datagram.Ack k m e (count_by (λ j. j == m) (m ∷ r.taken))) ∷ []) (ap known h.log ∙ is_known plan k p);
  quiet = λ i. refl;
  excess = refl;
  replies = refl;
}
  where
    took : (j v : ℕ) → Among ((m, u) ∷ r.received) (j, v) → Among (m ∷ r.taken) j
    took j v (inl e) = inl (ap (λ (z : ℕ × ℕ). z.0) e)
    took j v (inr a) = inr (h.took j v a)

    heard : (j : ℕ) → Among (m ∷ r.taken) j → (v : ℕ) × Among ((m, u) ∷ r.received) (j, v) × (stamped plan ≤ v)
    heard j (inl e) = (u, inl (ap (λ (z : ℕ). (z, u)) e), le)
    heard j (inr a) = let g = h.heard j a in (g.0, inr g.1, g.2)

    votes : (j : ℕ) → Among (m ∷ r.taken) j → j ≢ plan.origin → Among ((the_stamp plan, m) ∷ r.votes) (the_stamp plan, j)
    votes j (inl e) n = inl (ap (λ (z : ℕ). (the_stamp plan, z)) e)
    votes j (inr a) n = inr (h.votes j a n)

    apart : (j : ℕ) → Among (m ∷ r.taken) j → j ≢ k
    apart j (inl e) q = ne (e ∙ q)
    apart j (inr a) q = h.apart j a q

ok_fits : (m : ℕ) (s : Stamp) (u : ℕ) (r : Replica) → (take_frame m (InEpoch.PrepareOk s u) (begun r)).fitting ≡ true
unfolding take_frame receive ack send count_vote begun
ok_fits m s u r = refl

pub turn_ok : (plan : Plan) (k m t u : ℕ) (p : Part) (r : Replica) → FitsPlan plan → Plays plan k p r → m < plan.n → m ≢ k → (Among r.taken m → ⊥) → stamped plan ≤ u → (p ≡ Part.Owing → t ≤ stamped plan) →
    (a : ℕ) × Turned plan k p (m ∷ r.taken) [] ((m, Datagram.Ack k m 0 a) ∷ []) (step r (Input.Came m (Datagram.Frame m k 0 0 (InEpoch.PrepareOk (the_stamp plan) u))) t)
turn_ok plan k m t u p r fit h lt ne new le early =
    let pos = fit.reads in
    let payload = InEpoch.PrepareOk (the_stamp plan) u in
    let is = takes plan k m t p payload r h lt fit.most ne new (ok_right plan m u fit.origin (omega (arith, pos, le))) in
    (ack_of r m, then_not_paid plan k t p (m ∷ r.taken) [] _ _ (take_frame m payload (begun r)) pos early (steps_to r m t (Datagram.Frame m k 0 0 payload) _ is (ok_fits m (the_stamp plan) u r)) (ok_ruled plan k m u p r h ne le))
