-- The next frame on a link between members is valid, and its record fits.
use Rattle.std.proofs.Common.{◌≡◌, ℕ, ◌+◌, ◌<◌, ◌≤◌, List, [], ◌∷◌, refl, sym, ◌∙◌, ap, subst, inl, inr, Bool, true, false, arith, map}
use Rattle.std.specs.Prelude.{◌≢◌, IsTrue, Some, slice_get, not, nat_lt, nat_le, ◌==◌, ◌||◌, filter, count_by}
use Rattle.std.specs.List.{list_all}
use Rattle.std.proofs.lemmas.Bool.{and_parts, cases_eq, cases_lt, eq-eqb, ne_eqb, eqb-true, false≢true, lt-ltb}
use Rattle.std.proofs.lemmas.Bool.Decides.{nat_tests}
use Rattle.crsm_base.proofs.MembersTests.{true_both}
use Rattle.crsm_spec.specs.Types.{Stamp, Entry, Rec, InEpoch, Datagram}
use Rattle.crsm_spec.specs.Lists.{Among, has}
use Rattle.crsm_spec.specs.Log.{Log, known, decision, members, active, logged}
use Rattle.crsm_spec.specs.Fits.{fits, is_newest}
use Rattle.crsm_spec.specs.Replica.{Replica, members_of, frames_to, next_from, latest_from}
use Rattle.crsm_spec.specs.Frames.{time_of, is_odd_frame, is_wrong}
use Rattle.crsm_spec.specs.Step.{Input, step}
use Rattle.crsm_spec.specs.World.{World}
use Rattle.crsm_fact_log.specs.Logs.{AllFit, Logged}
use Rattle.crsm_fact_log.proofs.Logged.{decide_above}
use Rattle.crsm_fact_log.proofs.LogsFit.{of_known}
use Rattle.crsm_fact_log.proofs.Lists.{kept_from, has_in, has_from}
use Rattle.crsm_law_epoch.specs.Seats.{seat_up, seat_of, Sender, Receiver, Facts, logs_of, pushed_to, taken_of}
use Rattle.crsm_law_epoch.specs.Worlds.{seats, sent_in}
use Rattle.crsm_law_epoch.proofs.LogWorlds.{epochs_hold_always, logs_fit, up_numbers}
use Rattle.crsm_law_epoch.proofs.Words.{among_unmap, count_same}
use Rattle.crsm_law_epoch.proofs.Worlds.{log_there}
use Rattle.crsm_law_active.specs.Musts.{FitsHere}
use Rattle.crsm_law_active.proofs.Musts.{steps_take}
use Rattle.crsm_law_active.specs.Counted.{Counted}
use Rattle.crsm_law_active.proofs.Worlds.{counts_hold}
use Rattle.crsm_law_active.proofs.Serving.{logged_epoch_low}
use Rattle.crsm_law_rounds.specs.Members.{IsMemberUp, AllUp}
use Rattle.crsm_law_rounds.proofs.Growing.{greatest_among}

-- ---- whose entries a log has

pub fits_member : (me n : ℕ) (log : Log) (f : Entry) → IsTrue (fits me n log (Rec.Prepare f)) → IsTrue (has (members n log) f.stamp.origin)
unfolding fits
fits_member me n log f h = (and_parts _ (has (members n log) f.stamp.origin) (and_parts _ (is_newest f (logged log)) h).0).1

-- the origin of an entry of the known epoch is a member of it
pub logged_member : (me n : ℕ) (log : Log) (f : Entry) → AllFit me n log → Logged log f → f.epoch ≡ known log → IsTrue (has (members n log) f.stamp.origin)
unfolding known members decision
logged_member me n [] f h m e = absurd m
logged_member me n (Rec.Decide d ∷ log) f h (inl q) e = absurd (cc)
logged_member me n (Rec.Decide d ∷ log) f h (inr m) e = absurd (let low = logged_epoch_low me n log f h.1 m in let up = decide_above me n log d h.0 in omega (arith, low, up, e))
logged_member me n (Rec.Prepare g ∷ log) f h (inl q) e = fits_member me n log f (subst (λ z. IsTrue (fits me n log z)) q h.0)
logged_member me n (Rec.Prepare g ∷ log) f h (inr m) e = logged_member me n log f h.1 m e
logged_member me n (Rec.Boot i j ∷ log) f h (inl q) e = absurd (cc)
logged_member me n (Rec.Boot i j ∷ log) f h (inr m) e = logged_member me n log f h.1 m e
logged_member me n (Rec.Commit s ∷ log) f h (inl q) e = absurd (cc)
logged_member me n (Rec.Commit s ∷ log) f h (inr m) e = logged_member me n log f h.1 m e
logged_member me n (Rec.Adopt p es ∷ log) f h (inl q) e = absurd (cc)
logged_member me n (Rec.Adopt p es ∷ log) f h (inr m) e = logged_member me n log f h.1 m e
logged_member me n (Rec.Suspend x ∷ log) f h (inl q) e = absurd (cc)
logged_member me n (Rec.Suspend x ∷ log) f h (inr m) e = logged_member me n log f h.1 m e
logged_member me n (Rec.Promise i b ∷ log) f h (inl q) e = absurd (cc)
logged_member me n (Rec.Promise i b ∷ log) f h (inr m) e = logged_member me n log f h.1 m e
logged_member me n (Rec.Accept i b d ∷ log) f h (inl q) e = absurd (cc)
logged_member me n (Rec.Accept i b d ∷ log) f h (inr m) e = logged_member me n log f h.1 m e
logged_member me n (Rec.Enter x ∷ log) f h (inl q) e = absurd (cc)
logged_member me n (Rec.Enter x ∷ log) f h (inr m) e = logged_member me n log f h.1 m e

-- ---- a member

module _ (n e : ℕ) (ms : List ℕ) (u : World) (h : AllUp n e ms u) where
  pub facts : Facts n (seats u) (sent_in u)
  facts = epochs_hold_always n u h.reached h.few

  module _ (k : ℕ) (r : Replica) (m : IsMemberUp e ms u k r) where
    pub numbers : (r.me ≡ k) × (r.n ≡ n)
    numbers = up_numbers n u h.reached k r m.up

    pub seat_is : seats u k ≡ seat_up r
    unfolding seats seat_of
    seat_is = ap seat_of m.up

    pub sends : Sender n k (seat_up r) (sent_in u)
    unfolding seat_up
    sends = subst (λ s. IsTrue s.running → Sender n k s (sent_in u)) seat_is (facts.sender k) m.runs

    pub receives : Receiver k (seat_up r) (logs_of (seats u)) (sent_in u)
    unfolding seat_up
    receives = subst (λ s. IsTrue s.running → Receiver k s (logs_of (seats u)) (sent_in u)) seat_is (facts.receiver k) m.runs

    pub counted : Counted k r (sent_in u)
    counted = counts_hold n u h.reached h.few k r m.up m.runs

    pub fit : AllFit k n r.log
    fit = subst (AllFit k n) (log_there u k r m.up) (logs_fit n u h.reached h.few k)

    pub seat_log : (seats u k).log ≡ r.log
    unfolding seat_up
    seat_log = ap (λ s. s.log) seat_is

    pub members_are : members n r.log ≡ ms
    unfolding members_of
    members_are = ap (λ i. members i r.log) (sym numbers.1) ∙ m.counts

    -- a frame of its own in what was sent is one that it pushed
    pub pushed_at : (j i : ℕ) (p : InEpoch) → Among (sent_in u) (Datagram.Frame k j e i p) → slice_get (frames_to r j) i ≡ Some p
    unfolding seat_up pushed_to frames_to
    pushed_at j i p a = sends.only j i p (subst (λ z. Among (sent_in u) (Datagram.Frame k j z i p)) (sym m.knows) a)

    pub sent_at : (j i : ℕ) (p : InEpoch) → slice_get (frames_to r j) i ≡ Some p → Among (sent_in u) (Datagram.Frame k j e i p)
    unfolding seat_up pushed_to frames_to
    sent_at j i p a = subst (λ z. Among (sent_in u) (Datagram.Frame k j z i p)) m.knows (sends.sent j i p a)

    -- times rise along a link
    pub times_rise : (j i a : ℕ) (p q : InEpoch) → Among (sent_in u) (Datagram.Frame k j e i p) → Among (sent_in u) (Datagram.Frame k j e a q) → i < a → time_of p < time_of q
    unfolding seat_up pushed_to frames_to
    times_rise j i a p q x y lt = elim (cases_lt (time_of p) (time_of q)) [
      | inl l ↦ l
      | inr ge ↦ absurd (let t = sends.rising j a i q p (pushed_at j a q y) (pushed_at j i p x) ge in omega (arith, t, lt))
    ]

    pub time_issued : (j i : ℕ) (p : InEpoch) → Among (sent_in u) (Datagram.Frame k j e i p) → Among r.issued (time_of p)
    unfolding seat_up pushed_to frames_to
    time_issued j i p a = sends.times j i p (pushed_at j i p a)

    -- the origin of its entries of the epoch is a member
    pub origin_member : (f : Entry) → Logged r.log f → f.epoch ≡ e → Among ms f.stamp.origin
    origin_member f l ep = has_from ms f.stamp.origin (subst (λ z. IsTrue (has z f.stamp.origin)) members_are (logged_member k n r.log f fit l (ep ∙ sym m.knows)))

  -- ---- a link between two members

  module _ (k j : ℕ) (r q : Replica) (mk : IsMemberUp e ms u k r) (mj : IsMemberUp e ms u j q) (in_k : Among ms k) (ne : k ≡ j → ⊥) where
    -- a time that j has heard of k is that of a frame that it took
    heard_frame : (time : ℕ) → Among q.received (k, time) → (i : ℕ) × (p : InEpoch) × (i < next_from q k) × Among (sent_in u) (Datagram.Frame k j e i p) × (time_of p ≡ time)
    unfolding seat_up taken_of next_from
    heard_frame time a =
        let t = (receives j q mj).times k time a in
        (t.0, t.1, t.2, subst (λ z. Among (sent_in u) (Datagram.Frame k j z t.0 t.1)) mj.knows t.3, t.4)

    module _ (p : InEpoch) (sent : Among (sent_in u) (Datagram.Frame k j e (next_from q k) p)) where
      heard_before : (time : ℕ) → Among q.received (k, time) → time < time_of p
      heard_before time a =
          let t = heard_frame time a in
          let lt = times_rise k r mk j t.0 (next_from q k) t.1 p t.3 sent t.2 in
          let e' = t.4 in
          omega (arith, lt, e')

      latest_before : latest_from q.received k < time_of p
      unfolding latest_from
      latest_before = elim (greatest_among (map (λ (z : ℕ × ℕ). z.1) (filter (λ z. z.0 == k) q.received))) [
        | inl none ↦ (let l = (counted k r mk).later (time_of p) (time_issued k r mk j (next_from q k) p sent) in omega (arith, none, l))
        | inr m ↦ (let t = among_unmap (λ (z : ℕ × ℕ). z.1) (filter (λ z. z.0 == k) q.received) _ m in
            let f = kept_from (λ (z : ℕ × ℕ). z.0 == k) q.received t.0 t.1 in
            let here : Among q.received (k, t.0.1) = subst (λ z. Among q.received (z, t.0.1)) (eqb-true t.0.0 k f.1) f.0 in
            let lt = heard_before t.0.1 here in
            let is = t.2 in
            omega (arith, lt, is))
      ]

      not_late : nat_le (time_of p) (latest_from q.received k) ≡ false
      not_late = (let lt = latest_before in grind (arith, nat_tests, lt))

      right : (p : InEpoch) → Among (sent_in u) (Datagram.Frame k j e (next_from q k) p) → is_wrong q k p ≡ false
      unfolding is_wrong
      right (InEpoch.Prepare f) s =
          let t = facts.says k j e (next_from q k) f s in
          both_not (f.epoch == known q.log) (f.stamp.origin == k) (eq-eqb f.epoch (known q.log) (t.1 ∙ sym mj.knows)) (eq-eqb f.stamp.origin k t.2)
        where
          both_not : (a b : Bool) → a ≡ true → b ≡ true → (not a || not b) ≡ false
          both_not true true x y = refl
          both_not true false x y = absurd (false≢true y)
          both_not false b x y = absurd (false≢true x)
      right (InEpoch.PrepareOk s at) z =
          let t = facts.says_ok k j e (next_from q k) s at z in
          let l = subst (λ o. Logged o t.0) (seat_log k r mk) t.1 in
          let o = origin_member k r mk t.0 l t.2 in
          ap not (subst (λ l. IsTrue (has l s.origin)) (sym mj.counts) (has_in ms s.origin (subst (λ (y : Stamp). Among ms y.origin) t.3 o)))
      right (InEpoch.ClockTime at) z = refl

      pub not_odd : is_odd_frame q k p ≡ false
      unfolding is_odd_frame
      not_odd = rw (not_late, right p sent) refl

      newest : (f : Entry) → p ≡ InEpoch.Prepare f → (g : Entry) → Among (logged q.log) g → (not (g.stamp.origin == f.stamp.origin) || nat_lt g.stamp.time f.stamp.time) ≡ true
      unfolding time_of
      newest f is g m = elim (cases_eq g.stamp.origin f.stamp.origin) [
        | inr other ↦ ap (λ b. not b || nat_lt g.stamp.time f.stamp.time) (ne_eqb g.stamp.origin f.stamp.origin other)
        | inl one ↦ (let w = of_known q.log g m in
            let from = (facts.says k j e (next_from q k) f (subst (λ z. Among (sent_in u) (Datagram.Frame k j e (next_from q k) z)) is sent)).2 in
            let of_k : g.stamp.origin ≡ k = one ∙ from in
            let heard = (counted j q mj).heard g w (λ z. ne (sym of_k ∙ z)) in
            let lt = heard_before g.stamp.time (subst (λ z. Among q.received (z, g.stamp.time)) of_k heard) in
            or_true (not (g.stamp.origin == f.stamp.origin)) (nat_lt g.stamp.time f.stamp.time) (lt-ltb g.stamp.time f.stamp.time (subst (λ z. g.stamp.time < time_of z) is lt)))
      ]
        where
          or_true : (a b : Bool) → b ≡ true → (a || b) ≡ true
          or_true true b h = refl
          or_true false b h = h

      pub fits_here : (p2 : InEpoch) → p ≡ p2 → FitsHere q p2
      unfolding fits is_newest time_of members_of
      fits_here (InEpoch.Prepare f) is =
          let t = facts.says k j e (next_from q k) f (subst (λ z. Among (sent_in u) (Datagram.Frame k j e (next_from q k) z)) is sent) in
          let member : IsTrue (has (members q.n q.log) f.stamp.origin) = subst (λ z. IsTrue (has z f.stamp.origin)) (sym (count_members mj.counts)) (subst (λ z. IsTrue (has ms z)) (sym t.2) (has_in ms k in_k)) in
          true_both _ _ (true_both _ _ (true_both (active q.log) (f.epoch == known q.log) mj.runs (eq-eqb f.epoch (known q.log) (t.1 ∙ sym mj.knows))) member)
          (all_pass (λ g. not (g.stamp.origin == f.stamp.origin) || nat_lt g.stamp.time f.stamp.time) (logged q.log) (newest f is))
        where
          count_members : members_of q ≡ ms → members q.n q.log ≡ ms
          count_members h = h

          all_pass : (P : Entry → Bool) (xs : List Entry) → ((g : Entry) → Among xs g → P g ≡ true) → list_all P xs ≡ true
          all_pass P [] h = refl
          all_pass P (x ∷ xs) h = true_both (P x) (list_all P xs) (h x (inl refl)) (all_pass P xs (λ g m. h g (inr m)))
      fits_here (InEpoch.PrepareOk s at) is = tt
      fits_here (InEpoch.ClockTime at) is = tt

    -- the frame of the next number is taken
    pub next_is_taken : (t from : ℕ) (p : InEpoch) → k ≤ 14 → Among (sent_in u) (Datagram.Frame k j e (next_from q k) p) →
        (step q (Input.Came from (Datagram.Frame k j e (next_from q k) p)) t).replica.taken ≡ k ∷ q.taken
    next_is_taken t from p small sent =
        let nums = numbers j q mj in
        let other : k ≢ q.me = λ z. ne (z ∙ nums.0) in
        let h = steps_take q from k p t mj.runs small other (subst (λ z. IsTrue (has z k)) (sym mj.counts) (has_in ms k in_k)) (not_odd p sent) (fits_here p sent p refl) in
        subst (λ z. (step q (Input.Came from (Datagram.Frame k z e (next_from q k) p)) t).replica.taken ≡ k ∷ q.taken) nums.0
        (subst (λ z. (step q (Input.Came from (Datagram.Frame k q.me z (next_from q k) p)) t).replica.taken ≡ k ∷ q.taken) mj.knows h)

    pub next_rises : (s : Replica) → s.taken ≡ k ∷ q.taken → next_from s k ≡ next_from q k + 1
    unfolding next_from
    next_rises s h = ap (count_by (λ z. z == k)) h ∙ count_same k q.taken
