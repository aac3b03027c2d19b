-- After two calm rounds all that was submitted is executed at each member.
use Rattle.std.proofs.Common.{◌≡◌, ℕ, zero, suc, ◌+◌, ◌-◌, ◌<◌, ◌≤◌, List, [], ◌∷◌, ◌++◌, length, refl, sym, ◌∙◌, ap, subst, inl, inr, Bool, true, false, arith, map, unwrap_or}
use Rattle.std.specs.Prelude.{◌⊎◌, IsTrue, Some, nat_le, ◌==◌, ◌&&◌, ◌||◌, count_by}
use Rattle.std.specs.List.{list_any, list_all, range_with_len}
use Rattle.std.specs.Option.{option_map_or}
use Rattle.std.proofs.lemmas.Bool.{and_parts, cases_eq, eq-eqb, false≢true, le-leb, leb-true}
use Rattle.std.proofs.lemmas.Option.{same_Some}
use Rattle.crsm_base.specs.Order.{stamp_eq}
use Rattle.crsm_base.specs.Replicas.{majority}
use Rattle.crsm_base.proofs.MembersTests.{true_both}
use Rattle.crsm_spec.specs.Clock.{u64_max}
use Rattle.crsm_spec.specs.Types.{Stamp, Entry, Decision, Rec, InEpoch, Datagram}
use Rattle.crsm_spec.specs.Lists.{Among, has, first_of, numbers_below}
use Rattle.crsm_spec.specs.Log.{Log, known, decision, members, spec, active, executed, unexecuted}
use Rattle.crsm_spec.specs.Quorum.{spec_decided}
use Rattle.crsm_spec.specs.Fits.{fits, can_be_members}
use Rattle.crsm_spec.specs.Ready.{is_ready, is_replicated, is_stable, is_next, voted, votes_for, reached, all_received}
use Rattle.crsm_spec.specs.Replica.{Replica, members_of, spec_of, frames_to, last_issued}
use Rattle.crsm_spec.specs.Frames.{time_of}
use Rattle.crsm_spec.specs.World.{World, log_at}
use Rattle.crsm_fact_log.specs.Logs.{AllFit, Logged}
use Rattle.crsm_fact_log.proofs.Sorted.{eq_self}
use Rattle.crsm_fact_log.proofs.Lists.{list_all_at, has_from, get_inside, among_left, among_right}
use Rattle.crsm_law_epoch.specs.Numbers.{Distinct}
use Rattle.crsm_law_epoch.specs.Seats.{seat_up}
use Rattle.crsm_law_epoch.specs.Worlds.{sent_in}
use Rattle.crsm_law_epoch.proofs.CommitLogs.{unexecuted_logged}
use Rattle.crsm_law_epoch.proofs.Words.{among_map}
use Rattle.crsm_law_epoch.proofs.Worlds.{log_there}
use Rattle.crsm_law_bounds.specs.Bounds.{IsSpelt}
use Rattle.crsm_law_runs.proofs.DurableLists.{among_place}
use Rattle.crsm_law_active.proofs.Paying.{steps_pay}
use Rattle.crsm_law_active.specs.Counted.{IsPaidTo, HasVote, Counted}
use Rattle.crsm_law_active.proofs.ServedWorlds.{nothing_is_left}
use Rattle.crsm_law_rounds.specs.Members.{IsMemberUp, AllUp}
use Rattle.crsm_law_rounds.proofs.Growing.{logged_on, grows_extends}
use Rattle.crsm_law_rounds.proofs.Going.{up_one, calm_sent}
use Rattle.crsm_law_rounds.proofs.Links.{facts, numbers, seat_log, sends, receives, counted, fit, members_are, origin_member, sent_at, time_issued}
use Rattle.crsm_law_rounds.proofs.Round.{RoundDone, is_other}
use Rattle.crsm_law_rounds.proofs.Pigeons.{pigeons, set_of}
use Rattle.crsm_law_rounds.proofs.Executed.{all_executed}
use Rattle.crsm_law_rounds.proofs.Spreading.{AllWere, were_then, were1, were2, IsSubmitted, was_submitted, spreads, CalmStart, few_owed}

-- ---- tests over lists

any_from : {A : Type 0} (P : A → Bool) (xs : List A) (a : A) → Among xs a → P a ≡ true → list_any P xs ≡ true
any_from P [] a m h = absurd m
any_from P (x ∷ xs) a (inl e) h = or_left (P x) (list_any P xs) (ap P e ∙ h)
  where
    or_left : (b c : Bool) → b ≡ true → (b || c) ≡ true
    or_left true c q = refl
    or_left false c q = absurd (false≢true q)
any_from P (x ∷ xs) a (inr m) h = or_right (P x) (list_any P xs) (any_from P xs a m h)
  where
    or_right : (b c : Bool) → c ≡ true → (b || c) ≡ true
    or_right true c q = refl
    or_right false c q = q

all_pass : {A : Type 0} (P : A → Bool) (xs : List A) → ((a : A) → Among xs a → P a ≡ true) → list_all P xs ≡ true
all_pass P [] h = refl
all_pass P (x ∷ xs) h = true_both (P x) (list_all P xs) (h x (inl refl)) (all_pass P xs (λ a m. h a (inr m)))

-- ---- members are of the Spec, and a majority of it

range_length : (a n : ℕ) → length (range_with_len a n) ≡ n
range_length a zero = refl
range_length a (suc n) = (let t = range_length (a + 1) n in omega (arith, t))

half : (n : ℕ) → 1 ≤ n → majority n ≤ n
half n h = omega (arith, h)

-- the members of the known epoch are of its Spec, and a majority of it
record AreOfSpec (n : ℕ) (log : Log) : Type 0 where
  of_spec : (m : ℕ) → Among (members n log) m → Among (spec n log) m
  many : majority (length (spec n log)) ≤ length (members n log)

decide_members : (k n : ℕ) (log : Log) (d : Decision) → IsTrue (fits k n log (Rec.Decide d)) → IsTrue (list_all (has (spec_decided n (Some d))) d.members) × IsTrue (nat_le (majority (length (spec_decided n (Some d)))) (length d.members))
unfolding fits can_be_members
decide_members k n log d h = let t = and_parts _ (can_be_members (spec_decided n (Some d)) d.members) h in and_parts _ _ t.1

are_of_spec : (k n : ℕ) (log : Log) → 1 ≤ n → AllFit k n log → AreOfSpec n log
unfolding members spec decision spec_decided numbers_below
are_of_spec k n [] one h = first n one
  where
    first : (n : ℕ) → 1 ≤ n → AreOfSpec n []
    first n one = record { of_spec = λ m a. a; many = subst (λ z. majority z ≤ z) (sym (range_length 0 n)) (half n one) }
are_of_spec k n (Rec.Decide d ∷ log) one h =
    let t = decide_members k n log d h.0 in
    record {
      of_spec = λ m a. has_from (spec_decided n (Some d)) m (list_all_at (has (spec_decided n (Some d))) d.members m t.0 a);
      many = leb-true _ _ t.1;
    }
are_of_spec k n (Rec.Boot i j ∷ log) one h = (let o = are_of_spec k n log one h.1 in record { of_spec = o.of_spec; many = o.many })
are_of_spec k n (Rec.Prepare f ∷ log) one h = (let o = are_of_spec k n log one h.1 in record { of_spec = o.of_spec; many = o.many })
are_of_spec k n (Rec.Commit s ∷ log) one h = (let o = are_of_spec k n log one h.1 in record { of_spec = o.of_spec; many = o.many })
are_of_spec k n (Rec.Adopt p es ∷ log) one h = (let o = are_of_spec k n log one h.1 in record { of_spec = o.of_spec; many = o.many })
are_of_spec k n (Rec.Suspend x ∷ log) one h = (let o = are_of_spec k n log one h.1 in record { of_spec = o.of_spec; many = o.many })
are_of_spec k n (Rec.Promise i b ∷ log) one h = (let o = are_of_spec k n log one h.1 in record { of_spec = o.of_spec; many = o.many })
are_of_spec k n (Rec.Accept i b c ∷ log) one h = (let o = are_of_spec k n log one h.1 in record { of_spec = o.of_spec; many = o.many })
are_of_spec k n (Rec.Enter x ∷ log) one h = (let o = are_of_spec k n log one h.1 in record { of_spec = o.of_spec; many = o.many })

-- ---- a time that was issued

last_is : (r : Replica) → (last_issued r ≡ 0) ⊎ Among r.issued (last_issued r)
unfolding last_issued first_of
last_is r = go r.issued
  where
    go : (ts : List ℕ) → (unwrap_or (first_of ts) 0 ≡ 0) ⊎ Among ts (unwrap_or (first_of ts) 0)
    go [] = inl refl
    go (t ∷ ts) = inr (inl refl)

module _ (n e : ℕ) (t u : ℕ → ℕ) (ms : List ℕ) (one : 1 ≤ n) (distinct : Distinct ms) (small : (k : ℕ) → Among ms k → k ≤ 14) (v v1 v2 v3 v4 : World) (h : AllUp n e ms v)
    (spelt : IsSpelt n v) (spelt4 : IsSpelt n v4) (c : CalmStart e ms v) (d1 : RoundDone n e t ms v v1 v2) (d2 : RoundDone n e u ms v2 v3 v4)
    (above : (k j time : ℕ) (r : Replica) → Among ms k → Among ms j → IsMemberUp e ms v2 j r → Among r.issued time → time + 10 ≤ u k) (below : (k : ℕ) → Among ms k → u k ≤ u64_max - 100000) where
  -- ---- debts at the second ticks

  owed_low : (k : ℕ) (r : Replica) → Among ms k → IsMemberUp e ms v2 k r → (s : Stamp) → Among r.owed s → s.time < u k
  unfolding seat_up
  owed_low k r in_k mr s a =
      let w = (receives n e ms v2 d1.up2 k r mr).owed s a in
      let f = w.0 in
      let ep : f.epoch ≡ e = w.2 ∙ mr.knows in
      let o = origin_member n e ms v2 d1.up2 k r mr f w.1 ep in
      let m = d1.up2.member f.stamp.origin o in
      let own = (facts n e ms v2 d1.up2).own k f (subst (λ z. Logged z f) (sym (seat_log n e ms v2 d1.up2 k r mr)) w.1) in
      let here = subst (λ z. Logged z f) (seat_log n e ms v2 d1.up2 f.stamp.origin m.0 m.1) own in
      let issued = (sends n e ms v2 d1.up2 f.stamp.origin m.0 m.1).own f here refl (ep ∙ sym m.1.knows) in
      let le = above k f.stamp.origin f.stamp.time m.0 in_k o m.1 issued in
      let same = ap (λ (z : Stamp). z.time) w.3 in
      omega (arith, le, same)

  last_low : (k : ℕ) (r : Replica) → Among ms k → IsMemberUp e ms v2 k r → last_issued r ≤ u k
  last_low k r in_k mr = elim (last_is r) [
    | inl z ↦ omega (arith, z)
    | inr a ↦ (let le = above k k (last_issued r) r in_k in_k mr a in omega (arith, le))
  ]

  none_owed : (k : ℕ) (r : Replica) → Among ms k → IsMemberUp e ms v3 k r → r.owed ≡ []
  none_owed k r in_k m3 =
      let o = d1.up2.member k in_k in
      let few = few_owed n e t ms distinct small v v1 v2 h spelt c d1 k in_k o.0 o.1 in
      let last = last_low k o.0 in_k o.1 in
      let is = up_one _ r (same_Some _ _ (sym (d2.ticked k o.0 in_k o.1).up ∙ m3.up)) in
      let far = below k in_k in
      ap (λ (z : Replica). z.owed) (sym is)
      ∙ steps_pay o.0 (u k) o.1.runs (owed_low k o.0 in_k o.1) (omega (arith, few, last, far)) (omega (arith, few, far))

  -- ---- what was submitted is logged from the first round on

  logged3 : (f : Entry) → IsSubmitted e ms v f → (k : ℕ) (r : Replica) → Among ms k → IsMemberUp e ms v3 k r → Logged r.log f
  logged3 f s k r in_k m3 =
      let b = were1 n e u ms v2 v3 v4 d1.up2 d2 k r in_k m3 in
      logged_on f (grows_extends b.replica.me b.later.log) (spreads n e t ms v v1 v2 h d1 f s k b.replica in_k b.was)

  pub logged4 : (f : Entry) → IsSubmitted e ms v f → (k : ℕ) (r : Replica) → Among ms k → IsMemberUp e ms v4 k r → Logged r.log f
  logged4 f s k r in_k m4 =
      let b = were2 n e u ms v2 v3 v4 d1.up2 d2 k r in_k m4 in
      logged_on f (grows_extends b.replica.me b.later.log) (spreads n e t ms v v1 v2 h d1 f s k b.replica in_k b.was)

  pub all_were : AllWere e ms ((0 + 1) + (0 + 1)) v v4
  all_were = were_then e ms (0 + 1) (0 + 1) v v2 v4 (were2 n e t ms v v1 v2 h d1) (were2 n e u ms v2 v3 v4 d1.up2 d2)

  module _ (f : Entry) (s : IsSubmitted e ms v f) where
    -- each member but the origin has pushed its PREPAREOK
    pub paid : (k : ℕ) (r : Replica) → Among ms k → IsMemberUp e ms v3 k r → (f.stamp.origin ≡ k → ⊥) → IsPaidTo r f.stamp
    paid k r in_k m3 ne = elim ((counted n e ms v3 d2.up1 k r m3).paid f (logged3 f s k r in_k m3, s.epoch ∙ sym m3.knows) ne) [
      | inl owed ↦ absurd (subst (λ l. Among l f.stamp) (none_owed k r in_k m3) owed)
      | inr p ↦ p
    ]

    -- a PREPAREOK on the link to j, under a time above the stamp's
    record Acknowledged (k j : ℕ) : Type 0 where
      number : ℕ
      time : ℕ
      after : f.stamp.time < time
      sent : Among (sent_in v3) (Datagram.Frame k j e number (InEpoch.PrepareOk f.stamp time))
      within : (r : Replica) → IsMemberUp e ms v3 k r → number < length (frames_to r j)

    acknowledged : (k j : ℕ) → Among ms k → Among ms j → (k ≡ j → ⊥) → (f.stamp.origin ≡ k → ⊥) → Acknowledged k j
    acknowledged k j in_k in_j ne other =
        let o = d2.up1.member k in_k in
        let me = (numbers n e ms v3 d2.up1 k o.0 o.1).0 in
        let p = paid k o.0 in_k o.1 other j (is_other n e ms distinct small v3 k j o.0 o.1 me in_j ne) in
        let at = among_place (frames_to o.0 j) (InEpoch.PrepareOk f.stamp p.0) p.1 in
        record {
          number = at.0;
          time = p.0;
          after = p.2;
          sent = sent_at n e ms v3 d2.up1 k o.0 o.1 j at.0 (InEpoch.PrepareOk f.stamp p.0) at.1;
          within = λ r m. subst (λ (z : Replica). at.0 < length (frames_to z j)) (up_one o.0 r (same_Some _ _ (sym o.1.up ∙ m.up))) (get_inside (frames_to o.0 j) at.0 _ at.1);
        }

    sent4 : (x : Datagram) → Among (sent_in v3) x → Among (sent_in v4) x
    sent4 x a = calm_sent (λ k. Among ms k) v3 d2.goes2 x a

    module _ (j : ℕ) (q : Replica) (in_j : Among ms j) (mj : IsMemberUp e ms v4 j q) where
      cj : Counted j q (sent_in v4)
      cj = counted n e ms v4 d2.up2 j q mj

      logged_here : Logged q.log f × (f.epoch ≡ known q.log)
      logged_here = (logged4 f s j q in_j mj, s.epoch ∙ sym mj.knows)

      -- j has the vote of member m, and a time of it that is not below the entry's
      record HasAll (m : ℕ) : Type 0 where
        vote : Among q.votes (f.stamp, m)
        time : ℕ
        late : f.stamp.time ≤ time
        heard : Among (all_received q) (m, time)

      received_in : (m time : ℕ) → Among q.received (m, time) → Among (all_received q) (m, time)
      unfolding all_received
      received_in m time a = among_right (map (λ z. (q.me, z)) q.issued) q.received (m, time) a

      issued_in : (time : ℕ) → Among q.issued time → Among (all_received q) (j, time)
      unfolding all_received
      issued_in time a = subst (λ z. Among (map (λ y. (q.me, y)) q.issued ++ q.received) (z, time)) (numbers n e ms v4 d2.up2 j q mj).0
          (among_left (map (λ y. (q.me, y)) q.issued) q.received (q.me, time) (among_map (λ y. (q.me, y)) q.issued time a))

      -- of itself
      of_itself : HasAll j
      unfolding seat_up time_of
      of_itself = elim (cases_eq f.stamp.origin j) [
        | inl own ↦ record {
          vote = (cj.voted f logged_here).0;
          time = f.stamp.time;
          late = omega arith;
          heard = issued_in f.stamp.time (own_time own);
        }
        | inr other ↦ (let a = acknowledged j f.stamp.origin in_j s.member (λ z. other (sym z)) other in
            let issued = time_issued n e ms v4 d2.up2 j q mj f.stamp.origin a.number (InEpoch.PrepareOk f.stamp a.time) (sent4 _ a.sent) in
            record { vote = (cj.voted f logged_here).0; time = a.time; late = (let lt = a.after in omega (arith, lt)); heard = issued_in a.time (ok_time a.time issued) })
      ]
        where
          own_time : f.stamp.origin ≡ j → Among q.issued f.stamp.time
          own_time own = (sends n e ms v4 d2.up2 j q mj).own f logged_here.0 own logged_here.1

          ok_time : (time : ℕ) → Among q.issued (time_of (InEpoch.PrepareOk f.stamp time)) → Among q.issued time
          ok_time time a = a

      vote_of : (m time : ℕ) (p : InEpoch) → p ≡ InEpoch.PrepareOk f.stamp time → HasVote q m p → Among q.votes (f.stamp, m)
      vote_of m time p is hv = subst (λ z. HasVote q m z) is hv

      -- of another member
      of_another : (m : ℕ) → Among ms m → (m ≡ j → ⊥) → HasAll m
      unfolding time_of
      of_another m in_m ne = elim (cases_eq f.stamp.origin m) [
        | inl own ↦ record {
          vote = subst (λ z. Among q.votes (f.stamp, z)) own (cj.voted f logged_here).1;
          time = f.stamp.time;
          late = omega arith;
          heard = received_in m f.stamp.time (subst (λ z. Among q.received (z, f.stamp.time)) own (cj.heard f logged_here (λ z. ne (sym own ∙ z))));
        }
        | inr other ↦ (let a = acknowledged m j in_m in_j ne other in
            let r = d2.up1.member m in_m in
            let come = d2.come m j r.0 q in_m in_j ne r.1 mj in
            let within = a.within r.0 r.1 in
            let t1 = cj.taken m a.number (omega (arith, come, within)) in
            let sent1 = subst (λ z. Among (sent_in v4) (Datagram.Frame m j z a.number t1.0)) mj.knows t1.1 in
            let is = (facts n e ms v4 d2.up2).same m j e a.number t1.0 (InEpoch.PrepareOk f.stamp a.time) sent1 (sent4 _ a.sent) in
            record { vote = vote_of m a.time t1.0 is t1.3; time = a.time; late = (let lt = a.after in omega (arith, lt)); heard = received_in m a.time (ok_heard m a.time t1.0 is t1.2) })
      ]
        where
          ok_heard : (m time : ℕ) (p : InEpoch) → p ≡ InEpoch.PrepareOk f.stamp time → Among q.received (m, time_of p) → Among q.received (m, time)
          ok_heard m time p is a = subst (λ z. Among q.received (m, time_of z)) is a

      of_each : (m : ℕ) → Among ms m → HasAll m
      of_each m in_m = elim (cases_eq m j) [ inl e ↦ subst HasAll (sym e) of_itself | inr ne ↦ of_another m in_m ne ]

      -- ---- so it is ready

      is_voted : (m : ℕ) → Among ms m → voted q.votes f.stamp m ≡ true
      unfolding voted
      is_voted m in_m = any_from (λ (z : Stamp × ℕ). stamp_eq z.0 f.stamp && z.1 == m) q.votes (f.stamp, m) (of_each m in_m).vote
          (true_both (stamp_eq f.stamp f.stamp) (m == m) (eq_self f.stamp) (eq-eqb m m refl))

      is_reached : (m : ℕ) → Among ms m → reached (all_received q) f.stamp.time m ≡ true
      unfolding reached
      is_reached m in_m =
          let a = of_each m in_m in
          any_from (λ (z : ℕ × ℕ). z.0 == m && nat_le f.stamp.time z.1) (all_received q) (m, a.time) a.heard
          (true_both (m == m) (nat_le f.stamp.time a.time) (eq-eqb m m refl) (le-leb f.stamp.time a.time a.late))

      counts : majority (length (spec n q.log)) ≤ count_by (voted q.votes f.stamp) (spec n q.log)
      counts =
          let o = are_of_spec j n q.log one (fit n e ms v4 d2.up2 j q mj) in
          let same = members_are n e ms v4 d2.up2 j q mj in
          let p = pigeons (voted q.votes f.stamp) ms (spec n q.log) (set_of ms distinct) (λ m a. (o.of_spec m (subst (λ l. Among l m) (sym same) a), is_voted m a)) in
          let many = o.many in
          let size = ap (λ (l : List ℕ). length l) same in
          omega (arith, p, many, size)

      replicated : is_replicated (spec_of q) q.votes f.stamp ≡ true
      unfolding is_replicated votes_for spec_of
      replicated = subst (λ i. nat_le (majority (length (spec i q.log))) (count_by (voted q.votes f.stamp) (spec i q.log)) ≡ true) (sym (numbers n e ms v4 d2.up2 j q mj).1) (le-leb _ _ counts)

      stable : is_stable (members_of q) (all_received q) f.stamp ≡ true
      unfolding is_stable
      stable = subst (λ l. list_all (reached (all_received q) f.stamp.time) l ≡ true) (sym mj.counts) (all_pass (reached (all_received q) f.stamp.time) ms is_reached)

      next : first_of (unexecuted q.log) ≡ Some f → is_next (unexecuted q.log) f.stamp ≡ true
      unfolding is_next
      next first = ap (λ o. option_map_or (λ (z : Entry). stamp_eq z.stamp f.stamp) o false) first ∙ eq_self f.stamp

      pub ready : first_of (unexecuted q.log) ≡ Some f → is_ready q f.stamp ≡ true
      unfolding is_ready
      ready first = true_both _ _ (true_both _ _ replicated stable) (next first)

  -- ---- nothing is left

  pub none_left : (j : ℕ) (q : Replica) → Among ms j → IsMemberUp e ms v4 j q → unexecuted q.log ≡ []
  unfolding first_of
  none_left j q in_j mj = go (unexecuted q.log) refl
    where
      first_is : (f : Entry) (fs : List Entry) → first_of (f ∷ fs) ≡ Some f
      first_is f fs = refl

      go : (fs : List Entry) → unexecuted q.log ≡ fs → unexecuted q.log ≡ []
      go [] is = is
      go (f ∷ fs) is =
          let first : first_of (unexecuted q.log) ≡ Some f = ap first_of is ∙ first_is f fs in
          let l = unexecuted_logged q.log f first in
          let s = was_submitted n e ms ((0 + 1) + (0 + 1)) v v4 h d2.up2 all_were j q in_j mj f l.0 (l.1 ∙ mj.knows) in
          let idle = (nothing_is_left n v4 d2.up2.reached d2.up2.few j q mj.up).idle mj.runs f first in
          absurd (false≢true (sym idle ∙ ready f s j q in_j mj first))

  -- all that was submitted is executed
  pub executed_there : (f : Entry) → IsSubmitted e ms v f → (j : ℕ) (q : Replica) → Among ms j → IsMemberUp e ms v4 j q → Among (executed q.log) f
  executed_there f s j q in_j mj =
      let here = log_there v4 j q mj.up in
      let runs : IsTrue (active (log_at v4 j)) = subst (λ l. IsTrue (active l)) (sym here) mj.runs in
      let none = ap unexecuted here ∙ none_left j q in_j mj in
      let l = logged4 f s j q in_j mj in
      subst (λ z. Among (executed z) f) here
      (all_executed n v4 d2.up2.reached spelt4 j runs none f (subst (λ z. Logged z f) (sym here) l) (s.epoch ∙ sym mj.knows ∙ ap known (sym here)))
