-- The facts after a change at one seat.
use Rattle.std.proofs.Common.{◌≡◌, ℕ, ◌<◌, List, refl, sym, ap, subst, inl, inr, cond, eqb}
use Rattle.std.specs.Prelude.{◌⊎◌, IsTrue}
use Rattle.std.proofs.lemmas.Bool.{ne_eqb, eq-eqb, cases_eq}
use Rattle.crsm_spec.specs.Types.{Stamp, Entry, InEpoch, Datagram}
use Rattle.crsm_spec.specs.Lists.{Among}
use Rattle.crsm_spec.specs.Log.{known, has_entered}
use Rattle.crsm_fact_log.specs.Logs.{AllFit, Logged}
use Rattle.crsm_law_epoch.specs.Seats.{Seat, Sender, Receiver, HasStamp, IsFirst, Facts, logs_of}

unfoldable pub at : ℕ → Seat → (ℕ → Seat) → ℕ → Seat
at k s v j = cond (eqb j k) s (v j)

-- What is to be shown of a change at k to the seat s, after which `after` was sent.
pub record Move (n k : ℕ) (v : ℕ → Seat) (all : List Datagram) (s : Seat) (after : List Datagram) : Type 0 where
  pub fit : AllFit k n s.log
  pub keeps : (f : Entry) → Logged (v k).log f → Logged s.log f
  pub source : (f : Entry) → Logged s.log f → (f.stamp.origin ≡ k) ⊎ Logged (v f.stamp.origin).log f
  pub one : (f g : Entry) → Logged s.log f → Logged s.log g → f.stamp.origin ≡ k → f.epoch ≡ g.epoch → f.stamp ≡ g.stamp → f ≡ g
  pub more : (d : Datagram) → Among all d → Among after d
  pub frames : (m j e i : ℕ) (p : InEpoch) → Among after (Datagram.Frame m j e i p) → Among all (Datagram.Frame m j e i p) ⊎ (m ≡ k)
  pub says : (j e i : ℕ) (f : Entry) → Among after (Datagram.Frame k j e i (InEpoch.Prepare f)) → Logged s.log f × (f.epoch ≡ e) × (f.stamp.origin ≡ k)
  pub says_ok : (j e i : ℕ) (t : Stamp) (u : ℕ) → Among after (Datagram.Frame k j e i (InEpoch.PrepareOk t u)) → (f : Entry) × Logged s.log f × (f.epoch ≡ e) × (f.stamp ≡ t)
  pub same : (j e i : ℕ) (p q : InEpoch) → Among after (Datagram.Frame k j e i p) → Among after (Datagram.Frame k j e i q) → p ≡ q
  pub low : (j e i : ℕ) (p : InEpoch) (i' : ℕ) → Among after (Datagram.Frame k j e i p) → i' < i → (q : InEpoch) × Among after (Datagram.Frame k j e i' q)
  pub first : IsFirst k s.log after
  pub entered : (j e i : ℕ) (p : InEpoch) → Among after (Datagram.Frame k j e i p) → IsTrue (has_entered e s.log)
  pub stamped : (f : Entry) → Logged s.log f → f.stamp.origin ≡ k → IsTrue (has_entered f.epoch s.log)
  pub sender : IsTrue s.running → Sender n k s after
  pub receiver : IsTrue s.running → Receiver k s (logs_of (at k s v)) after

module _ (n k : ℕ) (v : ℕ → Seat) (s : Seat) where
  pub at_same : at k s v k ≡ s
  unfolding at
  at_same = ap (λ b. cond b s (v k)) (eq-eqb k k refl)

  pub at_other : (j : ℕ) → (j ≡ k → ⊥) → at k s v j ≡ v j
  unfolding at
  at_other j ne = ap (λ b. cond b s (v j)) (ne_eqb j k ne)

  -- what holds of the seat at k and of the others
  pub at_all : (P : ℕ → Seat → Type 0) → P k s → ((j : ℕ) → (j ≡ k → ⊥) → P j (v j)) → (j : ℕ) → P j (at k s v j)
  at_all P p q j = elim (cases_eq j k) [
    | inl e ↦ subst (λ i. P i (at k s v i)) (sym e) (subst (P k) (sym at_same) p)
    | inr ne ↦ subst (P j) (sym (at_other j ne)) (q j ne)
  ]

  -- whose seat it is
  pub at_case : (P : Seat → Type 0) (j : ℕ) → P (at k s v j) → ((j ≡ k) × P s) ⊎ ((j ≡ k → ⊥) × P (v j))
  at_case P j h = elim (cases_eq j k) [
    | inl e ↦ inl (e, subst P at_same (subst (λ i. P (at k s v i)) e h))
    | inr ne ↦ inr (ne, subst P (at_other j ne) h)
  ]

module _ (n k : ℕ) (v : ℕ → Seat) (all : List Datagram) (s : Seat) (after : List Datagram) (i : Facts n v all) (m : Move n k v all s after) where
  -- a frame of another
  other : (a j e x : ℕ) (p : InEpoch) → (a ≡ k → ⊥) → Among after (Datagram.Frame a j e x p) → Among all (Datagram.Frame a j e x p)
  other a j e x p ne h = elim (m.frames a j e x p h) [ inl o ↦ o | inr w ↦ absurd (ne w) ]

  still_sends : (j : ℕ) → (j ≡ k → ⊥) → Sender n j (v j) all → Sender n j (v j) after
  still_sends j ne o = record {
    own = o.own;
    top = o.top;
    told = o.told;
    rising = o.rising;
    times = o.times;
    peers = o.peers;
    only = λ a x p h. o.only a x p (other j a (known (v j).log) x p ne h);
    sent = λ a x p h. m.more _ (o.sent a x p h);
  }

  same : (a j e x : ℕ) (p q : InEpoch) → Among after (Datagram.Frame a j e x p) → Among after (Datagram.Frame a j e x q) → p ≡ q
  same a j e x p q g h = elim (cases_eq a k) [
    | inl w ↦ m.same j e x p q (subst (λ b. Among after (Datagram.Frame b j e x p)) w g) (subst (λ b. Among after (Datagram.Frame b j e x q)) w h)
    | inr ne ↦ i.same a j e x p q (other a j e x p ne g) (other a j e x q ne h)
  ]

  pub logged_at : (j : ℕ) (f : Entry) → Logged (v j).log f → Logged (at k s v j).log f
  logged_at j f h = elim (cases_eq j k) [
    | inl e ↦ at_all n k v s (λ x w. Logged (v x).log f → Logged w.log f) (m.keeps f) (λ x ne g. g) j h
    | inr ne ↦ subst (λ w. Logged w.log f) (sym (at_other n k v s j ne)) h
  ]

  pub stamp_at : (e j : ℕ) (t : Stamp) → HasStamp (logs_of v) e j t → HasStamp (logs_of (at k s v)) e j t
  stamp_at e j t h = (h.0, logged_at j h.0 h.1, h.2, h.3)

  still_takes : (j : ℕ) → Receiver j (v j) (logs_of v) all → Receiver j (v j) (logs_of (at k s v)) after
  still_takes j o = record {
    has_it = λ a x f lt h.
        let c = o.came a x lt in
        let eq = same a j (known (v j).log) x c.0 (InEpoch.Prepare f) (m.more _ c.1) h in
        o.has_it a x f lt (subst (λ p. Among all (Datagram.Frame a j (known (v j).log) x p)) eq c.1);
    came = λ a x lt. let c = o.came a x lt in (c.0, m.more _ c.1);
    times = λ a t h. let c = o.times a t h in (c.0, c.1, c.2, m.more _ c.3, c.4);
    others = o.others;
    votes = λ t a h. stamp_at (known (v j).log) a t (o.votes t a h);
    owed = o.owed;
  }

  -- The facts hold of the new seats.
  pub moved : Facts n (at k s v) after
  moved = record {
    fit = at_all n k v s (λ j w. AllFit j n w.log) m.fit (λ j ne. i.fit j);
    own = at_all n k v s (λ j w. (f : Entry) → Logged w.log f → Logged (at k s v f.stamp.origin).log f)
        (λ f h. elim (m.source f h) [
          | inl e ↦ subst (λ o. Logged (at k s v o).log f) (sym e) (subst (λ w. Logged w.log f) (sym (at_same n k v s)) h)
          | inr w ↦ logged_at f.stamp.origin f w
        ])
        (λ j ne f h. logged_at f.stamp.origin f (i.own j f h));
    one = at_all n k v s (λ j w. (f g : Entry) → Logged w.log f → Logged w.log g → f.stamp.origin ≡ j → f.epoch ≡ g.epoch → f.stamp ≡ g.stamp → f ≡ g) m.one (λ j ne. i.one j);
    says = at_all n k v s (λ a w. (j e x : ℕ) (f : Entry) → Among after (Datagram.Frame a j e x (InEpoch.Prepare f)) → Logged w.log f × (f.epoch ≡ e) × (f.stamp.origin ≡ a)) m.says
        (λ a ne j e x f h. i.says a j e x f (other a j e x _ ne h));
    says_ok = at_all n k v s (λ a w. (j e x : ℕ) (t : Stamp) (u : ℕ) → Among after (Datagram.Frame a j e x (InEpoch.PrepareOk t u)) → (f : Entry) × Logged w.log f × (f.epoch ≡ e) × (f.stamp ≡ t)) m.says_ok
        (λ a ne j e x t u h. i.says_ok a j e x t u (other a j e x _ ne h));
    same = same;
    low = λ a j e x p y h lt. elim (cases_eq a k) [
      | inl w ↦ subst (λ b. (q : InEpoch) × Among after (Datagram.Frame b j e y q)) (sym w) (m.low j e x p y (subst (λ b. Among after (Datagram.Frame b j e x p)) w h) lt)
      | inr ne ↦ (let t = i.low a j e x p y (other a j e x p ne h) lt in (t.0, m.more _ t.1))
    ];
    first = at_all n k v s (λ a w. IsFirst a w.log after) m.first
        (λ a ne f j x p g o h le. let t = i.first a f j x p g o (other a j f.epoch x p ne h) le in (t.0, t.1, m.more _ t.2));
    entered = at_all n k v s (λ a w. (j e x : ℕ) (p : InEpoch) → Among after (Datagram.Frame a j e x p) → IsTrue (has_entered e w.log)) m.entered
        (λ a ne j e x p h. i.entered a j e x p (other a j e x p ne h));
    stamped = at_all n k v s (λ a w. (f : Entry) → Logged w.log f → f.stamp.origin ≡ a → IsTrue (has_entered f.epoch w.log)) m.stamped (λ a ne. i.stamped a);
    sender = at_all n k v s (λ j w. IsTrue w.running → Sender n j w after) m.sender (λ j ne h. still_sends j ne (i.sender j h));
    receiver = at_all n k v s (λ j w. IsTrue w.running → Receiver j w (logs_of (at k s v)) after) m.receiver (λ j ne h. still_takes j (i.receiver j h));
  }
