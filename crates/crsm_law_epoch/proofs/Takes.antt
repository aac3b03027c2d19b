-- A running replica receives the next frame of another member.
use Rattle.std.proofs.Common.{◌≡◌, ℕ, ◌+◌, ◌<◌, List, ◌∷◌, sym, ◌∙◌, ap, subst, inl, inr, arith}
use Rattle.std.specs.Prelude.{◌⊎◌, IsTrue, Some, slice_get}
use Rattle.std.proofs.lemmas.Bool.{cases_eq, cases_lt}
use Rattle.crsm_spec.specs.Types.{Stamp, Entry, InEpoch, Datagram}
use Rattle.crsm_spec.specs.Lists.{Among, has}
use Rattle.crsm_spec.specs.Log.{known, members, has_entered}
use Rattle.crsm_spec.specs.Frames.{time_of}
use Rattle.crsm_fact_log.specs.Logs.{AllFit, Logged}
use Rattle.crsm_law_epoch.specs.Seats.{Seat, Sender, Receiver, HasStamp, IsTop, Facts, logs_of, pushed_to, taken_of}
use Rattle.crsm_law_epoch.proofs.Words.{count_same, count_other}
use Rattle.crsm_law_epoch.proofs.Moved.{at, at_same, at_other, moved}

-- What a taken frame does to the seat: what it says is logged, counted and owed, and its time is received.
pub record Takings (n k : ℕ) (v : ℕ → Seat) (all : List Datagram) (m : ℕ) (p : InEpoch) (s : Seat) : Type 0 where
  pub other : m ≡ k → ⊥
  pub frame : Among all (Datagram.Frame m k (known (v k).log) (taken_of m (v k).taken) p)
  pub fit : AllFit k n s.log
  pub known_is : known s.log ≡ known (v k).log
  pub members_are : members n s.log ≡ members n (v k).log
  pub from : (f : Entry) → Logged s.log f → Logged (v k).log f ⊎ (p ≡ InEpoch.Prepare f)
  pub keeps : (f : Entry) → Logged (v k).log f → Logged s.log f
  pub got : (f : Entry) → p ≡ InEpoch.Prepare f → Logged s.log f
  pub grows : (x : ℕ) → IsTrue (has_entered x (v k).log) → IsTrue (has_entered x s.log)
  pub issued : s.issued ≡ (v k).issued
  pub received : s.received ≡ (m, time_of p) ∷ (v k).received
  pub pushed : s.pushed ≡ (v k).pushed
  pub taken : s.taken ≡ m ∷ (v k).taken
  pub votes : (t : Stamp) (j : ℕ) → Among s.votes (t, j) → Among (v k).votes (t, j)
      ⊎ (((j ≡ m) ⊎ (j ≡ k)) × ((f : Entry) × (p ≡ InEpoch.Prepare f) × (f.stamp ≡ t))
      ⊎ (j ≡ m) × ((u : ℕ) × (p ≡ InEpoch.PrepareOk t u)))
  pub owed : (t : Stamp) → Among s.owed t → Among (v k).owed t ⊎ ((f : Entry) × (p ≡ InEpoch.Prepare f) × (f.stamp ≡ t))

module _ (n k : ℕ) (v : ℕ → Seat) (all : List Datagram) (i : Facts n v all) (runs : IsTrue (v k).running) (m : ℕ) (p : InEpoch) (s : Seat) (t : Takings n k v all m p s) where
  abbrev e0 : ℕ
  e0 = known (v k).log

  sends : Sender n k (v k) all
  sends = i.sender k runs

  takes : Receiver k (v k) (logs_of v) all
  takes = i.receiver k runs

  says_p : (f : Entry) → p ≡ InEpoch.Prepare f → Logged (v m).log f × (f.epoch ≡ e0) × (f.stamp.origin ≡ m)
  says_p f e = i.says m k e0 (taken_of m (v k).taken) f (subst (λ q. Among all (Datagram.Frame m k e0 (taken_of m (v k).taken) q)) e t.frame)

  -- an own entry is an old one
  own_old : (f : Entry) → Logged s.log f → f.stamp.origin ≡ k → Logged (v k).log f
  own_old f h o = elim (t.from f h) [ inl x ↦ x | inr x ↦ absurd (t.other (sym (says_p f x).2 ∙ o)) ]

  one_more : taken_of m (m ∷ (v k).taken) ≡ taken_of m (v k).taken + 1
  unfolding taken_of
  one_more = count_same m (v k).taken

  no_more : (a : ℕ) → (m ≡ a → ⊥) → taken_of a (m ∷ (v k).taken) ≡ taken_of a (v k).taken
  unfolding taken_of
  no_more a ne = count_other m a (v k).taken ne

  -- a number that was taken was taken before or is the new one
  which_of : (a x : ℕ) → x < taken_of a (m ∷ (v k).taken) → (x < taken_of a (v k).taken) ⊎ ((m ≡ a) × (x ≡ taken_of m (v k).taken))
  which_of a x lt = elim (cases_eq m a) [
    | inl e ↦ elim (cases_lt x (taken_of m (v k).taken)) [
      | inl l ↦ inl (subst (λ b. x < taken_of b (v k).taken) e l)
      | inr l ↦ (let lt' : x < taken_of m (m ∷ (v k).taken) = subst (λ b. x < taken_of b (m ∷ (v k).taken)) (sym e) lt in inr (e, omega (arith, one_more)))
    ]
    | inr ne ↦ inl (subst (λ y. x < y) (no_more a ne) lt)
  ]

  which : (a x : ℕ) → x < taken_of a s.taken → (x < taken_of a (v k).taken) ⊎ ((m ≡ a) × (x ≡ taken_of m (v k).taken))
  which a x lt = which_of a x (subst (λ ks. x < taken_of a ks) t.taken lt)

  still : (a x : ℕ) → x < taken_of a (v k).taken → x < taken_of a s.taken
  still a x lt = subst (λ ks. x < taken_of a ks) (sym t.taken) (elim (cases_eq m a) [
    | inl e ↦ subst (λ b. x < taken_of b (m ∷ (v k).taken)) e (let lt' : x < taken_of m (v k).taken = subst (λ b. x < taken_of b (v k).taken) (sym e) lt in omega (arith, one_more))
    | inr ne ↦ subst (λ y. x < y) (sym (no_more a ne)) lt
  ])

  new_taken : taken_of m (v k).taken < taken_of m s.taken
  new_taken = subst (λ ks. taken_of m (v k).taken < taken_of m ks) (sym t.taken) (omega (arith, one_more))

  to_now : (a x : ℕ) (q : InEpoch) → Among all (Datagram.Frame a k e0 x q) → Among all (Datagram.Frame a k (known s.log) x q)
  to_now a x q h = subst (λ e. Among all (Datagram.Frame a k e x q)) (sym t.known_is) h

  to_old : (a x : ℕ) (q : InEpoch) → Among all (Datagram.Frame a k (known s.log) x q) → Among all (Datagram.Frame a k e0 x q)
  to_old a x q h = subst (λ e. Among all (Datagram.Frame a k e x q)) t.known_is h

  here : (f : Entry) → Logged s.log f → Logged (at k s v k).log f
  here f h = subst (λ w. Logged w.log f) (sym (at_same n k v s)) h

  at_m : (f : Entry) → Logged (v m).log f → Logged (at k s v m).log f
  at_m f h = subst (λ w. Logged w.log f) (sym (at_other n k v s m t.other)) h

  sender_after : Sender n k s all
  sender_after = record {
    own = λ f h w e. subst (λ ts. Among ts f.stamp.time) (sym t.issued) (sends.own f (own_old f h w) w (e ∙ t.known_is));
    top = subst IsTop (sym t.issued) sends.top;
    told = λ f h w e j q. let r = sends.told f (own_old f h w) w (e ∙ t.known_is) j (subst (λ ms. IsTrue (has ms j)) t.members_are q.0, q.1) in
        (r.0, subst (λ fs. slice_get (pushed_to j fs) r.0 ≡ Some (InEpoch.Prepare f)) (sym t.pushed) r.1);
    rising = λ j x y a b g h le. sends.rising j x y a b (subst (λ fs. slice_get (pushed_to j fs) x ≡ Some a) t.pushed g) (subst (λ fs. slice_get (pushed_to j fs) y ≡ Some b) t.pushed h) le;
    times = λ j x q h. subst (λ ts. Among ts (time_of q)) (sym t.issued) (sends.times j x q (subst (λ fs. slice_get (pushed_to j fs) x ≡ Some q) t.pushed h));
    peers = λ j x q h. let r = sends.peers j x q (subst (λ fs. slice_get (pushed_to j fs) x ≡ Some q) t.pushed h) in (subst (λ ms. IsTrue (has ms j)) (sym t.members_are) r.0, r.1);
    only = λ j x q h. subst (λ fs. slice_get (pushed_to j fs) x ≡ Some q) (sym t.pushed) (sends.only j x q (subst (λ e. Among all (Datagram.Frame k j e x q)) t.known_is h));
    sent = λ j x q h. subst (λ e. Among all (Datagram.Frame k j e x q)) (sym t.known_is) (sends.sent j x q (subst (λ fs. slice_get (pushed_to j fs) x ≡ Some q) t.pushed h));
  }

  vote_new : (u : Stamp) (j : ℕ) → (((j ≡ m) ⊎ (j ≡ k)) × ((f : Entry) × (p ≡ InEpoch.Prepare f) × (f.stamp ≡ u)) ⊎ (j ≡ m) × ((w : ℕ) × (p ≡ InEpoch.PrepareOk u w))) →
      HasStamp (logs_of (at k s v)) (known s.log) j u
  vote_new u j (inl (who, (f, e, is))) =
      let w = says_p f e in
      let there : Logged (at k s v j).log f = elim who [
        | inl a ↦ subst (λ b. Logged (at k s v b).log f) (sym a) (at_m f w.0)
        | inr a ↦ subst (λ b. Logged (at k s v b).log f) (sym a) (here f (t.got f e))
      ] in
      (f, there, w.1 ∙ sym t.known_is, is)
  vote_new u j (inr (who, (w, e))) =
      let h = i.says_ok m k e0 (taken_of m (v k).taken) u w (subst (λ q. Among all (Datagram.Frame m k e0 (taken_of m (v k).taken) q)) e t.frame) in
      (h.0, subst (λ b. Logged (at k s v b).log h.0) (sym who) (at_m h.0 h.1), h.2 ∙ sym t.known_is, h.3)

  vote_there : (j : ℕ) (f : Entry) → Logged (v j).log f → Logged (at k s v j).log f
  vote_there j f h = elim (cases_eq j k) [
    | inl e ↦ subst (λ b. Logged (at k s v b).log f) (sym e) (here f (t.keeps f (subst (λ b. Logged (v b).log f) e h)))
    | inr ne ↦ subst (λ w. Logged w.log f) (sym (at_other n k v s j ne)) h
  ]

  receiver_after : Receiver k s (logs_of (at k s v)) all
  receiver_after = record {
    has_it = λ a x f lt h. elim (which a x lt) [
      | inl l ↦ t.keeps f (takes.has_it a x f l (to_old a x _ h))
      | inr w ↦ (let h1 : Among all (Datagram.Frame m k e0 (taken_of m (v k).taken) (InEpoch.Prepare f)) =
          subst (λ b. Among all (Datagram.Frame b k e0 (taken_of m (v k).taken) (InEpoch.Prepare f))) (sym w.0)
          (subst (λ y. Among all (Datagram.Frame a k e0 y (InEpoch.Prepare f))) w.1 (to_old a x _ h)) in
          t.got f (i.same m k e0 (taken_of m (v k).taken) p (InEpoch.Prepare f) t.frame h1))
    ];
    came = λ a x lt. elim (which a x lt) [
      | inl l ↦ (let c = takes.came a x l in (c.0, to_now a x c.0 c.1))
      | inr w ↦ (p, to_now a x p (subst (λ b. Among all (Datagram.Frame b k e0 x p)) w.0 (subst (λ y. Among all (Datagram.Frame m k e0 y p)) (sym w.1) t.frame)))
    ];
    times = λ a u h. elim (subst (λ hs. Among hs (a, u)) t.received h) [
      | inl e ↦ (let ea : m ≡ a = ap (λ y. y.0) e in (
        taken_of m (v k).taken,
        p,
        subst (λ b. taken_of m (v k).taken < taken_of b s.taken) ea new_taken,
        subst (λ b. Among all (Datagram.Frame b k (known s.log) (taken_of m (v k).taken) p)) ea (to_now m (taken_of m (v k).taken) p t.frame),
        ap (λ y. y.1) e,
      ))
      | inr g ↦ (let c = takes.times a u g in (c.0, c.1, still a c.0 c.2, to_now a c.0 c.1 c.3, c.4))
    ];
    others = λ a u h. elim (subst (λ hs. Among hs (a, u)) t.received h) [ inl e ↦ (λ w. t.other (ap (λ y. y.0) e ∙ w)) | inr g ↦ takes.others a u g ];
    votes = λ u j h. elim (t.votes u j h) [
      | inl o ↦ (let w = takes.votes u j o in (w.0, vote_there j w.0 w.1, w.2 ∙ sym t.known_is, w.3))
      | inr new ↦ vote_new u j new
    ];
    owed = λ u h. elim (t.owed u h) [
      | inl o ↦ (let w = takes.owed u o in (w.0, t.keeps w.0 w.1, w.2 ∙ sym t.known_is, w.3))
      | inr w ↦ (w.0, t.got w.0 w.1, (says_p w.0 w.1).1 ∙ sym t.known_is, w.2)
    ];
  }

  pub took : Facts n (at k s v) all
  took = moved n k v all s all i (record {
    fit = t.fit;
    keeps = t.keeps;
    source = λ f h. elim (t.from f h) [
      | inl x ↦ inr (i.own k f x)
      | inr x ↦ inr (let w = says_p f x in subst (λ b. Logged (v b).log f) (sym w.2) w.0)
    ];
    one = λ f g x y o ep e. i.one k f g (own_old f x o) (own_old g y (ap (λ z. z.origin) (sym e) ∙ o)) o ep e;
    more = λ d h. h;
    frames = λ a j e x q h. inl h;
    says = λ j e x f h. let w = i.says k j e x f h in (t.keeps f w.0, w.1, w.2);
    says_ok = λ j e x u y h. let w = i.says_ok k j e x u y h in (w.0, t.keeps w.0 w.1, w.2, w.3);
    same = i.same k;
    low = i.low k;
    first = λ f j x q g o. i.first k f j x q (own_old f g o) o;
    entered = λ j e x q h. t.grows e (i.entered k j e x q h);
    stamped = λ f g o. t.grows f.epoch (i.stamped k f (own_old f g o) o);
    sender = λ r. sender_after;
    receiver = λ r. receiver_after;
  })
