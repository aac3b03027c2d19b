-- A running replica pushes a payload, under a new time, to all other members.
use Rattle.std.proofs.Common.{◌≡◌, ℕ, zero, suc, ◌<◌, ◌≤◌, List, [], ◌∷◌, ◌++◌, length, refl, sym, ◌∙◌, ap, subst, inl, inr, cond, arith, map}
use Rattle.std.specs.Prelude.{◌⊎◌, IsTrue, Some, slice_get, filter, ◌==◌}
use Rattle.std.proofs.lemmas.Bool.{cases_eq, cases_lt, eq-eqb, ne_eqb}
use Rattle.std.proofs.lemmas.Option.{same_Some, slice_get_within}
use Rattle.std.proofs.lemmas.List.Elements.{filter-append}
use Rattle.std.proofs.lemmas.List.{map-append}
use Rattle.crsm_spec.specs.Types.{Stamp, Entry, InEpoch, Datagram}
use Rattle.crsm_spec.specs.Lists.{Among, has}
use Rattle.crsm_spec.specs.Log.{known, members, has_entered}
use Rattle.crsm_spec.specs.Frames.{time_of}
use Rattle.crsm_fact_log.specs.Logs.{AllFit, Logged}
use Rattle.crsm_law_epoch.specs.Numbers.{Distinct}
use Rattle.crsm_law_epoch.specs.Seats.{Seat, Sender, Receiver, IsTop, IsOther, IsFirst, Facts, logs_of, pushed_to, taken_of}
use Rattle.crsm_fact_log.proofs.Lists.{among_left, among_right, among_either, get_left, get_some}
use Rattle.crsm_law_epoch.proofs.Words.{among_map, among_unmap, get_end, get_either}
use Rattle.crsm_law_epoch.proofs.Moved.{at, at_same, at_other, moved}

-- the payload behind each receiver, and its frames
abbrev pub behind : InEpoch → List ℕ → List (ℕ × InEpoch)
behind p ks = map (λ j. (j, p)) ks

abbrev pub frame_to : ℕ → ℕ → List (ℕ × InEpoch) → InEpoch → ℕ → Datagram
frame_to k e fs p j = Datagram.Frame k j e (length (pushed_to j fs)) p

pub to_append : (j : ℕ) (a b : List (ℕ × InEpoch)) → pushed_to j (a ++ b) ≡ pushed_to j a ++ pushed_to j b
unfolding pushed_to
to_append j a b = ap (map (λ f. f.1)) (filter-append (λ f. f.0 == j) a b) ∙ map-append (λ f. f.1) (filter (λ f. f.0 == j) a) (filter (λ f. f.0 == j) b)

pub to_none : (p : InEpoch) (j : ℕ) (ks : List ℕ) → (Among ks j → ⊥) → pushed_to j (behind p ks) ≡ []
unfolding pushed_to
to_none p j [] h = refl
to_none p j (k ∷ ks) h =
    ap (λ b. map (λ f. f.1) (cond b ((k, p) ∷ filter (λ f. f.0 == j) (behind p ks)) (filter (λ f. f.0 == j) (behind p ks)))) (ne_eqb k j (λ e. h (inl e)))
    ∙ to_none p j ks (λ m. h (inr m))

to_one : (p : InEpoch) (j : ℕ) (ks : List ℕ) → Distinct ks → Among ks j → pushed_to j (behind p ks) ≡ p ∷ []
unfolding pushed_to
to_one p j [] d h = absurd h
to_one p j (k ∷ ks) d (inl e) =
    ap (λ b. map (λ f. f.1) (cond b ((k, p) ∷ filter (λ f. f.0 == j) (behind p ks)) (filter (λ f. f.0 == j) (behind p ks)))) (eq-eqb k j e)
    ∙ ap (λ l. p ∷ l) (to_none p j ks (λ m. d.0 (subst (Among ks) (sym e) m)))
to_one p j (k ∷ ks) d (inr h) =
    ap (λ b. map (λ f. f.1) (cond b ((k, p) ∷ filter (λ f. f.0 == j) (behind p ks)) (filter (λ f. f.0 == j) (behind p ks)))) (ne_eqb k j (λ e. d.0 (subst (Among ks) (sym e) h)))
    ∙ to_one p j ks d.1 h

-- ---- places in the new lists

nil_right : (xs : List InEpoch) (x : ℕ) (q : InEpoch) → slice_get (xs ++ []) x ≡ Some q → slice_get xs x ≡ Some q
nil_right [] x q h = h
nil_right (y ∷ ys) zero q h = h
nil_right (y ∷ ys) (suc x) q h = nil_right ys x q h

module _ (fs : List (ℕ × InEpoch)) (p : InEpoch) (ks : List ℕ) (d : Distinct ks) where
  old_get : (j x : ℕ) (q : InEpoch) → slice_get (pushed_to j fs) x ≡ Some q → slice_get (pushed_to j (fs ++ behind p ks)) x ≡ Some q
  old_get j x q h = subst (λ l. slice_get l x ≡ Some q) (sym (to_append j fs (behind p ks))) (get_left (pushed_to j fs) (pushed_to j (behind p ks)) x q h)

  end_get : (j : ℕ) → Among ks j → slice_get (pushed_to j (fs ++ behind p ks)) (length (pushed_to j fs)) ≡ Some p
  end_get j m =
      subst (λ l. slice_get l (length (pushed_to j fs)) ≡ Some p) (sym (to_append j fs (behind p ks) ∙ ap (λ l. pushed_to j fs ++ l) (to_one p j ks d m))) (get_end (pushed_to j fs) p)

  new_get : (j x : ℕ) (q : InEpoch) → ((Among ks j) ⊎ (Among ks j → ⊥)) → slice_get (pushed_to j (fs ++ behind p ks)) x ≡ Some q →
      (slice_get (pushed_to j fs) x ≡ Some q) ⊎ ((x ≡ length (pushed_to j fs)) × (p ≡ q) × Among ks j)
  new_get j x q (inl m) h =
      let e = to_append j fs (behind p ks) ∙ ap (λ l. pushed_to j fs ++ l) (to_one p j ks d m) in
      elim (get_either (pushed_to j fs) p x q (subst (λ l. slice_get l x ≡ Some q) e h)) [ inl a ↦ inl a | inr a ↦ inr (a.0, a.1, m) ]
  new_get j x q (inr m) h =
      let e = to_append j fs (behind p ks) ∙ ap (λ l. pushed_to j fs ++ l) (to_none p j ks m) in
      inl (nil_right (pushed_to j fs) x q (subst (λ l. slice_get l x ≡ Some q) e h))

among_or : (ks : List ℕ) (j : ℕ) → Among ks j ⊎ (Among ks j → ⊥)
among_or [] j = inr (λ h. h)
among_or (k ∷ ks) j = elim (cases_eq k j) [
  | inl e ↦ inl (inl e)
  | inr ne ↦ elim (among_or ks j) [ inl m ↦ inl (inr m) | inr out ↦ inr (λ h. elim h [ inl e ↦ ne e | inr m ↦ out m ]) ]
]

-- a frame of the push
pub record IsNew (k e0 : ℕ) (fs : List (ℕ × InEpoch)) (p : InEpoch) (ks : List ℕ) (a j e x : ℕ) (q : InEpoch) : Type 0 where
  pub sender : k ≡ a
  pub member : Among ks j
  pub epoch : e0 ≡ e
  pub place : length (pushed_to j fs) ≡ x
  pub payload : p ≡ q

pub is_new : (k e0 : ℕ) (fs : List (ℕ × InEpoch)) (p : InEpoch) (ks : List ℕ) (a j e x : ℕ) (q : InEpoch) → Among (map (frame_to k e0 fs p) ks) (Datagram.Frame a j e x q) →
    IsNew k e0 fs p ks a j e x q
is_new k e0 fs p ks a j e x q h =
    let t = among_unmap (frame_to k e0 fs p) ks (Datagram.Frame a j e x q) h in
    let j' = t.0 in
    let same : Datagram.Frame k j' e0 (length (pushed_to j' fs)) p ≡ Datagram.Frame a j e x q = t.2 in
    let ej : j' ≡ j = cc in
    let ex : length (pushed_to j' fs) ≡ x = cc in
    record { sender = cc; member = subst (Among ks) ej t.1; epoch = cc; place = subst (λ y. length (pushed_to y fs) ≡ x) ej ex; payload = cc }

-- what a running replica's frames show of any low part of what it sent
pub first_of_sender : (n k : ℕ) (s : Seat) (all part : List Datagram) → Sender n k s all →
    ((f : Entry) → Logged s.log f → f.stamp.origin ≡ k → (f.epoch ≡ known s.log)
    ⊎ ((j x : ℕ) (p : InEpoch) → Among part (Datagram.Frame k j f.epoch x p) → f.stamp.time ≤ time_of p → (y : ℕ) × (y ≤ x) × Among part (Datagram.Frame k j f.epoch y (InEpoch.Prepare f)))) →
    ((d : Datagram) → Among part d → Among all d) →
    ((j e x : ℕ) (p : InEpoch) (y : ℕ) → Among part (Datagram.Frame k j e x p) → y < x → (q : InEpoch) × Among part (Datagram.Frame k j e y q)) → IsFirst k s.log part
unfolding time_of
first_of_sender n k s all part o old sub low f j x p g own h le = elim (old f g own) [
  | inr w ↦ w j x p h le
  | inl e ↦ (let e0 = known s.log in
      let h0 : Among part (Datagram.Frame k j e0 x p) = subst (λ y. Among part (Datagram.Frame k j y x p)) e h in
      let at_x = o.only j x p (sub _ h0) in
      let peer = o.peers j x p at_x in
      let t = o.told f g own e j peer in
      let before = o.rising j t.0 x (InEpoch.Prepare f) p t.1 at_x le in
      let back = λ (y : ℕ) (c : Among part (Datagram.Frame k j e0 y (InEpoch.Prepare f))). subst (λ z. Among part (Datagram.Frame k j z y (InEpoch.Prepare f))) (sym e) c in
      elim (cases_lt t.0 x) [
        | inl less ↦ (let q = low j e0 x p t.0 h0 less in
            let same : q.0 ≡ InEpoch.Prepare f = same_Some _ _ (sym (o.only j t.0 q.0 (sub _ q.1)) ∙ t.1) in
            (t.0, before, back t.0 (subst (λ y. Among part (Datagram.Frame k j e0 t.0 y)) same q.1)))
        | inr more ↦ (let ee : t.0 ≡ x = omega arith in
            let same : p ≡ InEpoch.Prepare f = same_Some _ _ (sym at_x ∙ subst (λ y. slice_get (pushed_to j s.pushed) y ≡ Some (InEpoch.Prepare f)) ee t.1) in
            (x, (omega arith), back x (subst (λ y. Among part (Datagram.Frame k j e0 x y)) same h0)))
      ])
]

-- ---- the change

-- What a push does to the seat: a new time is issued, and the payload is behind each other member.
pub record Pushings (n k : ℕ) (v : ℕ → Seat) (p : InEpoch) (ks : List ℕ) (s : Seat) : Type 0 where
  pub distinct : Distinct ks
  pub members_in : (j : ℕ) → Among ks j → IsOther n k (v k).log j
  pub every : (j : ℕ) → IsOther n k (v k).log j → Among ks j
  pub late : (t : ℕ) → Among (v k).issued t → t < time_of p
  pub fit : AllFit k n s.log
  pub known_is : known s.log ≡ known (v k).log
  pub members_are : members n s.log ≡ members n (v k).log
  pub from : (f : Entry) → Logged s.log f → Logged (v k).log f ⊎ (p ≡ InEpoch.Prepare f)
  pub keeps : (f : Entry) → Logged (v k).log f → Logged s.log f
  pub says : (f : Entry) → p ≡ InEpoch.Prepare f → Logged s.log f × (f.epoch ≡ known (v k).log) × (f.stamp.origin ≡ k)
  pub says_ok : (t : Stamp) (u : ℕ) → p ≡ InEpoch.PrepareOk t u → (f : Entry) × Logged s.log f × (f.epoch ≡ known (v k).log) × (f.stamp ≡ t)
  pub grows : (x : ℕ) → IsTrue (has_entered x (v k).log) → IsTrue (has_entered x s.log)
  pub here : IsTrue (has_entered (known (v k).log) s.log)
  pub issued : s.issued ≡ time_of p ∷ (v k).issued
  pub received : s.received ≡ (v k).received
  pub pushed : s.pushed ≡ (v k).pushed ++ behind p ks
  pub taken : s.taken ≡ (v k).taken
  pub votes : (t : Stamp) (j : ℕ) → Among s.votes (t, j) → Among (v k).votes (t, j) ⊎ ((j ≡ k) × ((f : Entry) × (p ≡ InEpoch.Prepare f) × (f.stamp ≡ t)))
  pub owed : (t : Stamp) → Among s.owed t → Among (v k).owed t

module _ (n k : ℕ) (v : ℕ → Seat) (all : List Datagram) (i : Facts n v all) (runs : IsTrue (v k).running) (p : InEpoch) (ks : List ℕ) (s : Seat) (t : Pushings n k v p ks s) where
  abbrev e0 : ℕ
  e0 = known (v k).log

  abbrev pub frames_out : List Datagram
  frames_out = map (frame_to k e0 (v k).pushed p) ks

  abbrev pub all_after : List Datagram
  all_after = all ++ frames_out

  sends : Sender n k (v k) all
  sends = i.sender k runs

  takes : Receiver k (v k) (logs_of v) all
  takes = i.receiver k runs

  old : (dg : Datagram) → Among all dg → Among all_after dg
  old dg h = among_left all frames_out dg h

  either : (a j e x : ℕ) (q : InEpoch) → Among all_after (Datagram.Frame a j e x q) → Among all (Datagram.Frame a j e x q) ⊎ IsNew k e0 (v k).pushed p ks a j e x q
  either a j e x q h = elim (among_either all frames_out (Datagram.Frame a j e x q) h) [ inl o ↦ inl o | inr w ↦ inr (is_new k e0 (v k).pushed p ks a j e x q w) ]

  -- the time of a new entry is that of the payload
  time_new : (f : Entry) → p ≡ InEpoch.Prepare f → time_of p ≡ f.stamp.time
  unfolding time_of
  time_new f e = ap time_of e

  abbrev new_pushed : List (ℕ × InEpoch)
  new_pushed = (v k).pushed ++ behind p ks

  got_get : (j x : ℕ) (q : InEpoch) → slice_get (pushed_to j new_pushed) x ≡ Some q → (slice_get (pushed_to j (v k).pushed) x ≡ Some q) ⊎ ((x ≡ length (pushed_to j (v k).pushed)) × (p ≡ q) × Among ks j)
  got_get j x q h = new_get (v k).pushed p ks t.distinct j x q (among_or ks j) h

  keep_get : (j x : ℕ) (q : InEpoch) → slice_get (pushed_to j (v k).pushed) x ≡ Some q → slice_get (pushed_to j new_pushed) x ≡ Some q
  keep_get j x q h = old_get (v k).pushed p ks t.distinct j x q h

  at_end : (j : ℕ) → Among ks j → slice_get (pushed_to j new_pushed) (length (pushed_to j (v k).pushed)) ≡ Some p
  at_end j m = end_get (v k).pushed p ks t.distinct j m

  pushed_before : (j x : ℕ) (q : InEpoch) → slice_get (pushed_to j (v k).pushed) x ≡ Some q → time_of q < time_of p
  pushed_before j x q h = t.late (time_of q) (sends.times j x q h)

  only_after : (j x : ℕ) (q : InEpoch) → Among all_after (Datagram.Frame k j e0 x q) → slice_get (pushed_to j new_pushed) x ≡ Some q
  only_after j x q h = elim (either k j e0 x q h) [
    | inl o ↦ keep_get j x q (sends.only j x q o)
    | inr w ↦ subst (λ y. slice_get (pushed_to j new_pushed) x ≡ Some y) w.payload (subst (λ y. slice_get (pushed_to j new_pushed) y ≡ Some p) w.place (at_end j w.member))
  ]

  sent_after : (j x : ℕ) (q : InEpoch) → slice_get (pushed_to j new_pushed) x ≡ Some q → Among all_after (Datagram.Frame k j e0 x q)
  sent_after j x q h = elim (got_get j x q h) [
    | inl o ↦ old _ (sends.sent j x q o)
    | inr w ↦ subst (λ y. Among all_after (Datagram.Frame k j e0 x y)) w.1
        (subst (λ y. Among all_after (Datagram.Frame k j e0 y p)) (sym w.0) (among_right all frames_out _ (among_map (frame_to k e0 (v k).pushed p) ks j w.2)))
  ]

  rising_after : (j x y : ℕ) (q r : InEpoch) → slice_get (pushed_to j new_pushed) x ≡ Some q → slice_get (pushed_to j new_pushed) y ≡ Some r → time_of q ≤ time_of r → x ≤ y
  rising_after j x y q r g h le = elim (got_get j x q g) [
    | inl o ↦ elim (got_get j y r h) [
      | inl u ↦ sends.rising j x y q r o u le
      | inr u ↦ (let b = slice_get_within (pushed_to j (v k).pushed) x q o in omega (arith, b, u.0))
    ]
    | inr w ↦ elim (got_get j y r h) [
      | inl u ↦ (let b = pushed_before j y r u in let c = ap time_of w.1 in absurd (omega (arith, b, c, le)))
      | inr u ↦ (omega (arith, w.0, u.0))
    ]
  ]

  -- an own entry of the known epoch
  own_time : (f : Entry) → Logged s.log f → f.stamp.origin ≡ k → f.epoch ≡ e0 → Among (time_of p ∷ (v k).issued) f.stamp.time
  own_time f h o e = elim (t.from f h) [ inl x ↦ inr (sends.own f x o e) | inr x ↦ inl (time_new f x) ]

  told_at : (f : Entry) → Logged s.log f → f.stamp.origin ≡ k → f.epoch ≡ e0 → (j : ℕ) → IsOther n k (v k).log j → (x : ℕ) × (slice_get (pushed_to j new_pushed) x ≡ Some (InEpoch.Prepare f))
  told_at f h o e j q = elim (t.from f h) [
    | inl y ↦ (let w = sends.told f y o e j q in (w.0, keep_get j w.0 _ w.1))
    | inr y ↦ (length (pushed_to j (v k).pushed), subst (λ r. slice_get (pushed_to j new_pushed) (length (pushed_to j (v k).pushed)) ≡ Some r) y (at_end j (t.every j q)))
  ]

  to_members : (j : ℕ) → IsOther n k s.log j → IsOther n k (v k).log j
  to_members j q = (subst (λ ms. IsTrue (has ms j)) t.members_are q.0, q.1)

  of_members : (j : ℕ) → IsOther n k (v k).log j → IsOther n k s.log j
  of_members j q = (subst (λ ms. IsTrue (has ms j)) (sym t.members_are) q.0, q.1)

  abbrev in_new : (j x : ℕ) (q : InEpoch) → slice_get (pushed_to j s.pushed) x ≡ Some q → slice_get (pushed_to j new_pushed) x ≡ Some q
  in_new j x q h = subst (λ fs. slice_get (pushed_to j fs) x ≡ Some q) t.pushed h

  abbrev in_seat : (j x : ℕ) (q : InEpoch) → slice_get (pushed_to j new_pushed) x ≡ Some q → slice_get (pushed_to j s.pushed) x ≡ Some q
  in_seat j x q h = subst (λ fs. slice_get (pushed_to j fs) x ≡ Some q) (sym t.pushed) h

  top_new : IsTop (time_of p ∷ (v k).issued)
  top_new u h = let a = t.late u h in omega arith

  pub sender_after : Sender n k s all_after
  sender_after = record {
    own = λ f h o e. subst (λ ts. Among ts f.stamp.time) (sym t.issued) (own_time f h o (e ∙ t.known_is));
    top = subst IsTop (sym t.issued) top_new;
    told = λ f h o e j q. let w = told_at f h o (e ∙ t.known_is) j (to_members j q) in (w.0, in_seat j w.0 _ w.1);
    rising = λ j x y q r g h le. rising_after j x y q r (in_new j x q g) (in_new j y r h) le;
    times = λ j x q h. subst (λ ts. Among ts (time_of q)) (sym t.issued) (elim (got_get j x q (in_new j x q h)) [ inl o ↦ inr (sends.times j x q o) | inr w ↦ inl (ap time_of w.1) ]);
    peers = λ j x q h. of_members j (elim (got_get j x q (in_new j x q h)) [ inl o ↦ sends.peers j x q o | inr w ↦ t.members_in j w.2 ]);
    only = λ j x q h. in_seat j x q (only_after j x q (subst (λ e. Among all_after (Datagram.Frame k j e x q)) t.known_is h));
    sent = λ j x q h. subst (λ e. Among all_after (Datagram.Frame k j e x q)) (sym t.known_is) (sent_after j x q (in_new j x q h));
  }

  here : (f : Entry) → Logged s.log f → Logged (at k s v k).log f
  here f h = subst (λ w. Logged w.log f) (sym (at_same n k v s)) h

  vote_there : (j : ℕ) (f : Entry) → Logged (v j).log f → Logged (at k s v j).log f
  vote_there j f h = elim (cases_eq j k) [
    | inl e ↦ subst (λ b. Logged (at k s v b).log f) (sym e) (here f (t.keeps f (subst (λ b. Logged (v b).log f) e h)))
    | inr ne ↦ subst (λ w. Logged w.log f) (sym (at_other n k v s j ne)) h
  ]

  receiver_after : Receiver k s (logs_of (at k s v)) all_after
  receiver_after = record {
    has_it = λ m x f lt h. elim (either m k (known s.log) x _ h) [
      | inl o ↦ t.keeps f (takes.has_it m x f (subst (λ ks'. x < taken_of m ks') t.taken lt) (subst (λ e. Among all (Datagram.Frame m k e x (InEpoch.Prepare f))) t.known_is o))
      | inr w ↦ absurd ((t.members_in k w.member).1 refl)
    ];
    came = λ m x lt. let c = takes.came m x (subst (λ ks'. x < taken_of m ks') t.taken lt) in (c.0, old _ (subst (λ e. Among all (Datagram.Frame m k e x c.0)) (sym t.known_is) c.1));
    times = λ m u h. let c = takes.times m u (subst (λ hs. Among hs (m, u)) t.received h) in
        (c.0, c.1, subst (λ ks'. c.0 < taken_of m ks') (sym t.taken) c.2, old _ (subst (λ e. Among all (Datagram.Frame m k e c.0 c.1)) (sym t.known_is) c.3), c.4);
    others = λ m u h. takes.others m u (subst (λ hs. Among hs (m, u)) t.received h);
    votes = λ u j h. elim (t.votes u j h) [
      | inl o ↦ (let w = takes.votes u j o in (w.0, vote_there j w.0 w.1, w.2 ∙ sym t.known_is, w.3))
      | inr w ↦ (let a = t.says w.1.0 w.1.1 in (w.1.0, subst (λ b. Logged (at k s v b).log w.1.0) (sym w.0) (here w.1.0 a.0), a.1 ∙ sym t.known_is, w.1.2))
    ];
    owed = λ u h. let w = takes.owed u (t.owed u h) in (w.0, t.keeps w.0 w.1, w.2 ∙ sym t.known_is, w.3);
  }

  low_after : (j e x : ℕ) (q : InEpoch) (y : ℕ) → Among all_after (Datagram.Frame k j e x q) → y < x → (r : InEpoch) × Among all_after (Datagram.Frame k j e y r)
  low_after j e x q y h lt = elim (either k j e x q h) [
    | inl o ↦ (let w = i.low k j e x q y o lt in (w.0, old _ w.1))
    | inr w ↦ (let g = get_some (pushed_to j (v k).pushed) y (omega (arith, lt, w.place)) in
        (g.0, subst (λ z. Among all_after (Datagram.Frame k j z y g.0)) w.epoch (old _ (sends.sent j y g.0 g.1))))
  ]

  -- own entries of other epochs are old, and so are their frames
  pub first_old : (f : Entry) → Logged s.log f → f.stamp.origin ≡ k → (f.epoch ≡ known s.log)
      ⊎ ((j x : ℕ) (q : InEpoch) → Among all_after (Datagram.Frame k j f.epoch x q) → f.stamp.time ≤ time_of q → (y : ℕ) × (y ≤ x) × Among all_after (Datagram.Frame k j f.epoch y (InEpoch.Prepare f)))
  first_old f h o = elim (cases_eq f.epoch e0) [
    | inl e ↦ inl (e ∙ sym t.known_is)
    | inr ne ↦ elim (t.from f h) [
      | inr new ↦ absurd (ne (t.says f new).1)
      | inl was ↦ inr (λ j x q g le. elim (either k j f.epoch x q g) [
        | inl a ↦ (let w = i.first k f j x q was o a le in (w.0, w.1, old _ w.2))
        | inr b ↦ absurd (ne (sym b.epoch))
      ])
    ]
  ]

  same_entry : (f g : Entry) → InEpoch.Prepare f ≡ InEpoch.Prepare g → f ≡ g
  same_entry f g h = cc

  one_after : (f g : Entry) → Logged s.log f → Logged s.log g → f.stamp.origin ≡ k → f.epoch ≡ g.epoch → f.stamp ≡ g.stamp → f ≡ g
  one_after f g a b o ep e =
      let go : g.stamp.origin ≡ k = ap (λ z. z.origin) (sym e) ∙ o in
      let et : f.stamp.time ≡ g.stamp.time = ap (λ z. z.time) e in
      elim (t.from f a) [
        | inl x ↦ elim (t.from g b) [
          | inl y ↦ i.one k f g x y o ep e
          | inr y ↦ (let u = t.late f.stamp.time (sends.own f x o (ep ∙ (t.says g y).1)) in let w = time_new g y in absurd (omega (arith, u, w, et)))
        ]
        | inr x ↦ elim (t.from g b) [
          | inl y ↦ (let u = t.late g.stamp.time (sends.own g y go (sym ep ∙ (t.says f x).1)) in let w = time_new f x in absurd (omega (arith, u, w, et)))
          | inr y ↦ same_entry f g (sym x ∙ y)
        ]
      ]

  -- two payloads at one number of the known epoch
  same_new : {a : ℕ} (j e x : ℕ) (q r w : InEpoch) → IsNew k e0 (v k).pushed p ks a j e x w → Among all_after (Datagram.Frame k j e x q) → Among all_after (Datagram.Frame k j e x r) → q ≡ r
  same_new j e x q r w new g h =
      same_Some q r (sym (only_after j x q (subst (λ y. Among all_after (Datagram.Frame k j y x q)) (sym new.epoch) g)) ∙ only_after j x r (subst (λ y. Among all_after (Datagram.Frame k j y x r)) (sym new.epoch) h))

  pub pushed_all : Facts n (at k s v) all_after
  pushed_all = moved n k v all s all_after i (record {
    fit = t.fit;
    keeps = t.keeps;
    source = λ f h. elim (t.from f h) [ inl x ↦ inr (i.own k f x) | inr x ↦ inl (t.says f x).2 ];
    one = one_after;
    more = old;
    frames = λ a j e x q h. elim (either a j e x q h) [ inl o ↦ inl o | inr w ↦ inr (sym w.sender) ];
    says = λ j e x f h. elim (either k j e x _ h) [
      | inl o ↦ (let w = i.says k j e x f o in (t.keeps f w.0, w.1, w.2))
      | inr w ↦ (let a = t.says f w.payload in (a.0, a.1 ∙ w.epoch, a.2))
    ];
    says_ok = λ j e x u y h. elim (either k j e x _ h) [
      | inl o ↦ (let w = i.says_ok k j e x u y o in (w.0, t.keeps w.0 w.1, w.2, w.3))
      | inr w ↦ (let a = t.says_ok u y w.payload in (a.0, a.1, a.2 ∙ w.epoch, a.3))
    ];
    same = λ j e x q r g h. elim (either k j e x q g) [
      | inl a ↦ elim (either k j e x r h) [
        | inl b ↦ i.same k j e x q r a b
        | inr b ↦ same_new j e x q r r b g h
      ]
      | inr a ↦ same_new j e x q r q a g h
    ];
    low = low_after;
    first = first_of_sender n k s all_after all_after sender_after first_old (λ dg h. h) low_after;
    entered = λ j e x q h. elim (either k j e x q h) [ inl o ↦ t.grows e (i.entered k j e x q o) | inr w ↦ subst (λ y. IsTrue (has_entered y s.log)) w.epoch t.here ];
    stamped = λ f h o. elim (t.from f h) [ inl x ↦ t.grows f.epoch (i.stamped k f x o) | inr x ↦ subst (λ y. IsTrue (has_entered y s.log)) (sym (t.says f x).1) t.here ];
    sender = λ r. sender_after;
    receiver = λ r. receiver_after;
  })
