-- Each change of a step keeps the witnesses of all commits, and a commit adds its own.
use Rattle.std.proofs.Common.{◌≡◌, ℕ, ◌<◌, ◌≤◌, List, ◌∷◌, ◌++◌, refl, sym, ◌∙◌, ap, subst, inl, inr, arith, map}
use Rattle.std.specs.Prelude.{◌⊎◌, IsTrue, Some, not, ◌&&◌, ◌==◌, nat_le, length, count_by}
use Rattle.std.proofs.lemmas.Bool.{and_parts, false≢true, eqb-true, leb-true, cases_eq}
use Rattle.std.proofs.lemmas.Option.{same_Some}
use Rattle.crsm_spec.specs.Types.{Entry, Rec, InEpoch, Datagram}
use Rattle.crsm_base.specs.Order.{stamp_eq}
use Rattle.crsm_spec.specs.Lists.{Among, has, first_of}
use Rattle.crsm_spec.specs.Log.{Log, known, members, spec, unexecuted, active, live, suspended, has_entered}
use Rattle.crsm_spec.specs.Frames.{time_of}
use Rattle.crsm_spec.specs.Paxos.{majority}
use Rattle.crsm_spec.specs.Ready.{is_ready, is_replicated, is_stable, is_next, votes_for, voted, reached, all_received}
use Rattle.crsm_spec.specs.Replica.{members_of, spec_of}
use Rattle.crsm_spec.specs.Draft.{Draft, would}
use Rattle.crsm_fact_log.specs.Logs.{Extends, Logged}
use Rattle.crsm_fact_log.proofs.Tests.{same_stamp}
use Rattle.crsm_law_epoch.specs.Seats.{Seat, seat_up, Receiver, logs_of, taken_of}
use Rattle.crsm_law_epoch.proofs.Words.{any_is, among_unmap}
use Rattle.crsm_fact_log.proofs.Lists.{among_either, among_left, list_all_at, has_from}
use Rattle.crsm_law_epoch.proofs.Moved.{at, at_same, at_other, at_case}
use Rattle.crsm_law_epoch.proofs.Drafts.{Good, outs, sender_of, receiver_of, fit_of}
use Rattle.crsm_law_epoch.proofs.Kept.{live_entered, would_late}
use Rattle.crsm_law_epoch.specs.Witness.{Committed, Witnessed, AreWitnessed}
use Rattle.crsm_law_epoch.proofs.CommitSeats.{stays, changed}
use Rattle.crsm_law_epoch.proofs.CommitEffects.{Effect}
use Rattle.crsm_law_epoch.proofs.CommitEffects.Effect.{Still, Within, Off, Entered, Stamped, Executed}
use Rattle.crsm_law_epoch.proofs.CommitLogs.{extends_cases, committed_entered, unexecuted_logged, enter_new, enter_knows, prepare_knows, commit_knows}

module _ (n k : ℕ) (v : ℕ → Seat) (sent : List Datagram) where
  abbrev G : Draft → Type 0
  G x = Good n k v sent x

  -- the witnesses in the world of a draft
  abbrev pub W : Draft → Type 0
  W x = AreWitnessed n (at k (seat_up x.replica) v) sent

  committed_here : (x : Draft) (log : Log) (f : Entry) → Extends (Rec.Commit f.stamp ∷ log) x.replica.log → first_of (unexecuted log) ≡ Some f → Committed (logs_of (at k (seat_up x.replica) v)) k log f
  unfolding seat_up
  committed_here x log f e h = (subst (λ w. Extends (Rec.Commit f.stamp ∷ log) w.log) (sym (at_same n k v (seat_up x.replica))) e, h)

  -- where the replica runs on, it has passed what it has committed
  passed_here : (x : Draft) → W x → (log : Log) (f : Entry) → Extends (Rec.Commit f.stamp ∷ log) x.replica.log → first_of (unexecuted log) ≡ Some f →
      IsTrue (active x.replica.log) → known x.replica.log ≡ known log → (t : ℕ) × Among x.replica.issued t × (f.stamp.time ≤ t)
  unfolding seat_up
  passed_here x a log f e h run kn =
      subst (λ w. IsTrue w.running → known w.log ≡ known log → (t : ℕ) × Among w.issued t × (f.stamp.time ≤ t)) (at_same n k v (seat_up x.replica))
      (a k log f (committed_here x log f e h)).passed run kn

  -- ---- a commit

  module _ (x : Draft) (f : Entry) (g : G x) (run : IsTrue (active x.replica.log)) (next : first_of (unexecuted x.replica.log) ≡ Some f) (ready : IsTrue (is_ready x.replica f.stamp)) where
    abbrev was : ℕ → Seat
    was = at k (seat_up x.replica) v

    abbrev e : ℕ
    e = known x.replica.log

    takes : Receiver k (seat_up x.replica) (logs_of was) (sent ++ outs x)
    takes = receiver_of n k v sent x g run

    replicated : IsTrue (is_replicated (spec_of x.replica) x.replica.votes f.stamp)
    unfolding is_ready
    replicated = (and_parts (is_replicated (spec_of x.replica) x.replica.votes f.stamp) _ (and_parts _ (is_next (unexecuted x.replica.log) f.stamp) ready).0).0

    stable : IsTrue (is_stable (members_of x.replica) (all_received x.replica) f.stamp)
    unfolding is_ready
    stable = (and_parts (is_replicated (spec_of x.replica) x.replica.votes f.stamp) _ (and_parts _ (is_next (unexecuted x.replica.log) f.stamp) ready).0).1

    many : majority (length (spec n x.replica.log)) ≤ count_by (voted x.replica.votes f.stamp) (spec n x.replica.log)
    unfolding is_replicated votes_for spec_of
    many = subst (λ i. majority (length (spec i x.replica.log)) ≤ count_by (voted x.replica.votes f.stamp) (spec i x.replica.log)) g.size (leb-true _ _ replicated)

    is_logged : Logged x.replica.log f × (f.epoch ≡ e)
    is_logged = unexecuted_logged x.replica.log f next

    at_k : Logged (was k).log f
    unfolding seat_up
    at_k = subst (λ w. Logged w.log f) (sym (at_same n k v (seat_up x.replica))) is_logged.0

    -- who voted has logged this entry
    voter_logged : (j : ℕ) → IsTrue (voted x.replica.votes f.stamp j) → Logged (was j).log f
    unfolding voted seat_up
    voter_logged j h =
        let t = any_is (λ w. stamp_eq w.0 f.stamp && w.1 == j) x.replica.votes h in
        let p = and_parts (stamp_eq t.0.0 f.stamp) (t.0.1 == j) t.2 in
        let vote : Among x.replica.votes (t.0.0, j) = subst (λ i. Among x.replica.votes (t.0.0, i)) (eqb-true t.0.1 j p.1) t.1 in
        let h' = takes.votes t.0.0 j vote in
        let g1 = h'.0 in
        let same_s : g1.stamp ≡ f.stamp = h'.3 ∙ same_stamp t.0.0 f.stamp p.0 in
        let o1 = g.facts.own j g1 h'.1 in
        let o2 = subst (λ i. Logged (was i).log f) (ap (λ s. s.origin) (sym same_s)) (g.facts.own k f at_k) in
        let one : g1 ≡ f = g.facts.one g1.stamp.origin g1 f o1 o2 refl (h'.2 ∙ sym is_logged.1) same_s in
        subst (λ z. Logged (was j).log z) one h'.1

    -- a time that a member has reached
    member_time : (m : ℕ) → IsTrue (has (members n x.replica.log) m) → (t : ℕ) × (f.stamp.time ≤ t) × (((m ≡ k) × Among x.replica.issued t) ⊎ Among x.replica.received (m, t))
    unfolding is_stable members_of reached all_received
    member_time m mem =
        let in_ms = has_from (members x.replica.n x.replica.log) m (subst (λ i. IsTrue (has (members i x.replica.log) m)) (sym g.size) mem) in
        let r = list_all_at (reached (all_received x.replica) f.stamp.time) (members x.replica.n x.replica.log) m stable in_ms in
        let t = any_is (λ h. h.0 == m && nat_le f.stamp.time h.1) (map (λ u. (x.replica.me, u)) x.replica.issued ++ x.replica.received) r in
        let p = and_parts (t.0.0 == m) (nat_le f.stamp.time t.0.1) t.2 in
        let is_m : t.0.0 ≡ m = eqb-true t.0.0 m p.0 in (
          t.0.1,
          leb-true f.stamp.time t.0.1 p.1,
          elim (among_either (map (λ u. (x.replica.me, u)) x.replica.issued) x.replica.received t.0 t.1) [
            | inl a ↦ inl (let w = among_unmap (λ u. (x.replica.me, u)) x.replica.issued t.0 a in (sym is_m ∙ sym (ap (λ z. z.0) w.2) ∙ g.me, subst (Among x.replica.issued) (ap (λ z. z.1) w.2) w.1))
            | inr a ↦ inr (subst (λ i. Among x.replica.received (i, t.0.1)) is_m a)
          ],
        )

    -- the frame that it was received in
    frame_of : (m : ℕ) → IsTrue (has (members n x.replica.log) m) → (m ≡ k → ⊥) →
        (i : ℕ) × (p : InEpoch) × (i < taken_of m x.replica.taken) × Among (sent ++ outs x) (Datagram.Frame m k e i p) × (f.stamp.time ≤ time_of p)
    unfolding seat_up
    frame_of m mem ne = let t = member_time m mem in elim t.2 [
      | inl w ↦ absurd (ne w.0)
      | inr a ↦ (let q = takes.times m t.0 a in (q.0, q.1, q.2, q.3, subst (λ z. f.stamp.time ≤ z) (sym q.4) t.1))
    ]

    sent_frame : (m i : ℕ) (p : InEpoch) → (m ≡ k → ⊥) → Among (sent ++ outs x) (Datagram.Frame m k e i p) → Among sent (Datagram.Frame m k e i p)
    sent_frame m i p ne h = elim (among_either sent (outs x) _ h) [ inl a ↦ a | inr b ↦ absurd (ne (g.mine m k e i p b)) ]

    older_logged : (m : ℕ) (y : Entry) → IsTrue (has (members n x.replica.log) m) → (m ≡ k → ⊥) → Logged (was m).log y → y.epoch ≡ e → y.stamp.origin ≡ m → y.stamp.time ≤ f.stamp.time → Logged x.replica.log y
    unfolding seat_up
    older_logged m y mem ne h ep o le =
        let q = frame_of m mem ne in
        let at_m = subst (λ z. Among (sent ++ outs x) (Datagram.Frame m k z q.0 q.1)) (sym ep) q.3 in
        let z = g.facts.first m y k q.0 q.1 h o at_m (omega (arith, le, q.4)) in
        takes.has_it m z.0 y (omega (arith, z.1, q.2)) (subst (λ w. Among (sent ++ outs x) (Datagram.Frame m k w z.0 (InEpoch.Prepare y))) ep z.2)

    own_time : (t : ℕ) × Among x.replica.issued t × (f.stamp.time ≤ t)
    unfolding seat_up active
    own_time =
        let mem = (live_entered k n x.replica.log (fit_of n k v sent x g) (and_parts (live x.replica.log) (not (suspended x.replica.log)) run).0).1 in
        let t = member_time k mem in
        elim t.2 [ inl w ↦ (t.0, w.1, t.1) | inr a ↦ absurd (takes.others k t.0 a refl) ]

    -- the witness, where s is the seat after the commit
    pub new_witness : (s : Seat) → s.log ≡ Rec.Commit f.stamp ∷ x.replica.log → ((t : ℕ) → Among x.replica.issued t → Among s.issued t) → Witnessed n (at k s v) sent k x.replica.log f
    unfolding seat_up
    new_witness s log issued = record {
      voters = voted x.replica.votes f.stamp;
      many = many;
      logged = λ j h. stays n k v (seat_up x.replica) s sent (λ z q. subst (λ l. Logged l z) (sym log) (inr q)) j f (voter_logged j h);
      received = λ m mem ne. let q = frame_of m mem ne in (q.0, q.1, sent_frame m q.0 q.1 ne q.3, q.4);
      older = λ m y mem h ep o le. elim (at_case n k v s (λ w. Logged w.log y) m h) [
        | inl w ↦ elim (subst (λ l. Logged l y) log w.1) [ inl q ↦ absurd (no_commit y q) | inr q ↦ q ]
        | inr w ↦ older_logged m y mem w.0 (subst (λ z. Logged z.log y) (sym (at_other n k v (seat_up x.replica) m w.0)) w.1) ep o le
      ];
      passed = λ r kn. subst (λ w. (t : ℕ) × Among w.issued t × (f.stamp.time ≤ t)) (sym (at_same n k v s)) (own_time.0, issued own_time.0 own_time.1, own_time.2);
    }
      where
        no_commit : (y : Entry) → Rec.Commit f.stamp ≡ Rec.Prepare y → ⊥
        no_commit y q = cc

  -- ---- each kind of change

  -- an own new entry comes after all that was committed
  stamped_later : (x : Draft) (reading : ℕ) (y : Entry) → G x → W x → IsTrue (active x.replica.log) → would x reading ≡ Some y.stamp.time → y.epoch ≡ known x.replica.log → (by : ℕ) (log : Log) (f : Entry) →
      Committed (logs_of (at k (seat_up x.replica) v)) by log f → IsTrue (has (members n log) k) → y.epoch ≡ known log → y.stamp.time ≤ f.stamp.time → ⊥
  unfolding seat_up
  stamped_later x reading y g a run w kn by log f c mem ep le =
      let s = sender_of n k v sent x g run in
      let late = λ (u : ℕ) (h : Among x.replica.issued u). would_late x reading y.stamp.time s.top w u h in
      elim (cases_eq by k) [
        | inl q ↦ (let t = passed_here x a log f (subst (λ z. Extends (Rec.Commit f.stamp ∷ log) z.log) (at_same n k v (seat_up x.replica)) (subst (λ i. Extends (Rec.Commit f.stamp ∷ log) (at k (seat_up x.replica) v i).log) q c.0)) c.1 run (sym kn ∙ ep) in
            let lt = late t.0 t.1 in absurd (omega (arith, lt, t.2, le)))
        | inr ne ↦ (let h = (a by log f c).received k mem (λ z. ne (sym z)) in
            let fr = subst (λ z. Among (sent ++ outs x) (Datagram.Frame k by z h.0 h.1)) (sym ep ∙ kn) (among_left sent (outs x) _ h.2) in
            let lt = late (time_of h.1) (s.times by h.0 h.1 (s.only by h.0 h.1 fr)) in absurd (omega (arith, lt, h.3, le)))
      ]

  pub effect_witnessed : (reading : ℕ) (x y : Draft) → G x → y.replica.me ≡ x.replica.me → Effect reading x y → W x → W y
  unfolding seat_up
  effect_witnessed reading x y g me (Still e sup) a = changed n k v (seat_up x.replica) (seat_up y.replica) sent (record {
    keeps = λ f h. subst (λ l. Logged l f) (sym e) h;
    own = λ by log f c mem z h ep o le. subst (λ l. Logged l z) e h;
    passed = λ log f ex h run kn. let t = passed_here x a log f ex h (subst (λ l. IsTrue (active l)) e run) (subst (λ l. known l ≡ known log) e kn) in (t.0, sup t.0 t.1, t.2);
    commits = λ log f ex h. inl (subst (Extends (Rec.Commit f.stamp ∷ log)) e ex);
  }) a
  effect_witnessed reading x y g me (Within rec e foreign kn act iss) a = changed n k v (seat_up x.replica) (seat_up y.replica) sent (record {
    keeps = λ f h. subst (λ l. Logged l f) (sym e) (inr h);
    own = λ by log f c mem z h ep o le. elim (subst (λ l. Logged l z) e h) [ inl q ↦ absurd (foreign.entry z q (o ∙ sym g.me)) | inr q ↦ q ];
    passed = λ log f ex h run kn'. let t = passed_here x a log f ex h (act (subst (λ l. IsTrue (active l)) e run)) (sym kn ∙ subst (λ l. known l ≡ known log) e kn') in (t.0, subst (λ l. Among l t.0) (sym iss) t.1, t.2);
    commits = λ log f ex h. elim (extends_cases (Rec.Commit f.stamp) rec log x.replica.log (subst (Extends (Rec.Commit f.stamp ∷ log)) e ex)) [ inl q ↦ absurd (foreign.commit f (sym q.0)) | inr q ↦ inl q ];
  }) a
  effect_witnessed reading x y g me (Off rec e foreign off) a = changed n k v (seat_up x.replica) (seat_up y.replica) sent (record {
    keeps = λ f h. subst (λ l. Logged l f) (sym e) (inr h);
    own = λ by log f c mem z h ep o le. elim (subst (λ l. Logged l z) e h) [ inl q ↦ absurd (foreign.entry z q (o ∙ sym g.me)) | inr q ↦ q ];
    passed = λ log f ex h run kn. absurd (false≢true (sym off ∙ subst (λ l. IsTrue (active l)) e run));
    commits = λ log f ex h. elim (extends_cases (Rec.Commit f.stamp) rec log x.replica.log (subst (Extends (Rec.Commit f.stamp ∷ log)) e ex)) [ inl q ↦ absurd (foreign.commit f (sym q.0)) | inr q ↦ inl q ];
  }) a
  effect_witnessed reading x y g me (Entered e fit) a = changed n k v (seat_up x.replica) (seat_up y.replica) sent (record {
    keeps = λ f h. subst (λ l. Logged l f) (sym e) (inr h);
    own = λ by log f c mem z h ep o le. elim (subst (λ l. Logged l z) e h) [ inl q ↦ absurd (no_entry z q) | inr q ↦ q ];
    passed = λ log f ex h run kn. absurd (never log f ex (enter_known ∙ subst (λ l. known l ≡ known log) e kn));
    commits = λ log f ex h. elim (extends_cases (Rec.Commit f.stamp) (Rec.Enter (known x.replica.log)) log x.replica.log (subst (Extends (Rec.Commit f.stamp ∷ log)) e ex)) [ inl q ↦ absurd (no_commit f q.0) | inr q ↦ inl q ];
  }) a
    where
      no_entry : (z : Entry) → Rec.Enter (known x.replica.log) ≡ Rec.Prepare z → ⊥
      no_entry z q = cc

      no_commit : (f : Entry) → Rec.Commit f.stamp ≡ Rec.Enter (known x.replica.log) → ⊥
      no_commit f q = cc

      enter_known : known x.replica.log ≡ known (Rec.Enter (known x.replica.log) ∷ x.replica.log)
      enter_known = enter_knows (known x.replica.log) x.replica.log

      never : (log : Log) (f : Entry) → Extends (Rec.Commit f.stamp ∷ log) x.replica.log → known x.replica.log ≡ known log → ⊥
      never log f ex kn = false≢true (sym (enter_new x.replica.me x.replica.n x.replica.log fit) ∙ subst (λ z. IsTrue (has_entered z x.replica.log)) (sym kn) (committed_entered k n log f.stamp x.replica.log ex (fit_of n k v sent x g)))
  effect_witnessed reading x y g me (Stamped f e ep w run iss) a = changed n k v (seat_up x.replica) (seat_up y.replica) sent (record {
    keeps = λ z h. subst (λ l. Logged l z) (sym e) (inr h);
    own = λ by log c at_one mem z h ep' o le. elim (subst (λ l. Logged l z) e h) [
      | inl q ↦ (let is : f ≡ z = same_entry f z q in
          absurd (stamped_later x reading z g a run (subst (λ i. would x reading ≡ Some i.stamp.time) is w) (subst (λ i. i.epoch ≡ known x.replica.log) is ep) by log c at_one mem ep' le))
      | inr q ↦ q
    ];
    passed = λ log c ex h run' kn. let t = passed_here x a log c ex h run (prepare_knows f x.replica.log ∙ subst (λ l. known l ≡ known log) e kn) in (t.0, subst (λ l. Among l t.0) (sym iss) (inr t.1), t.2);
    commits = λ log c ex h. elim (extends_cases (Rec.Commit c.stamp) (Rec.Prepare f) log x.replica.log (subst (Extends (Rec.Commit c.stamp ∷ log)) e ex)) [ inl q ↦ absurd (no_commit c q.0) | inr q ↦ inl q ];
  }) a
    where
      same_entry : (f z : Entry) → Rec.Prepare f ≡ Rec.Prepare z → f ≡ z
      same_entry f z q = cc

      no_commit : (c : Entry) → Rec.Commit c.stamp ≡ Rec.Prepare f → ⊥
      no_commit c q = cc
  effect_witnessed reading x y g me (Executed f e run next ready iss) a = changed n k v (seat_up x.replica) (seat_up y.replica) sent (record {
    keeps = λ z h. subst (λ l. Logged l z) (sym e) (inr h);
    own = λ by log c at_one mem z h ep o le. elim (subst (λ l. Logged l z) e h) [ inl q ↦ absurd (no_entry z q) | inr q ↦ q ];
    passed = λ log c ex h run' kn. let t = passed_here x a log c ex h run (commit_knows f.stamp x.replica.log ∙ subst (λ l. known l ≡ known log) e kn) in (t.0, subst (λ l. Among l t.0) (sym iss) t.1, t.2);
    commits = λ log c ex h. elim (extends_cases (Rec.Commit c.stamp) (Rec.Commit f.stamp) log x.replica.log (subst (Extends (Rec.Commit c.stamp ∷ log)) e ex)) [
      | inl q ↦ (let is : f ≡ c = same_Some f c (sym next ∙ ap (λ l. first_of (unexecuted l)) (sym q.1) ∙ h) in
          inr (subst (λ l. Witnessed n (at k (seat_up y.replica) v) sent k l c) (sym q.1) (subst (λ z. Witnessed n (at k (seat_up y.replica) v) sent k x.replica.log z) is
          (new_witness x f g run next ready (seat_up y.replica) e (λ t m. subst (λ l. Among l t) (sym iss) m)))))
      | inr q ↦ inl q
    ];
  }) a
    where
      no_entry : (z : Entry) → Rec.Commit f.stamp ≡ Rec.Prepare z → ⊥
      no_entry z q = cc
