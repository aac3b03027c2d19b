-- The facts during a step: of the world with the step's draft in the replica's place and its sends in the network.
use Rattle.std.proofs.Common.{◌≡◌, ℕ, zero, suc, ◌<◌, List, [], ◌∷◌, ◌++◌, refl, sym, ◌∙◌, ap, subst, inl, inr, Bool, true, false, cond, eqb, take, map}
use Rattle.std.specs.Prelude.{◌⊎◌, IsTrue}
use Rattle.std.proofs.lemmas.List.{map-append}
use mathlib.Core.Path.{fun_ext}
use Rattle.crsm_spec.specs.Types.{Entry, InEpoch, Datagram}
use Rattle.crsm_spec.specs.Lists.{Among}
use Rattle.crsm_spec.specs.Log.{Log, known, active, has_entered}
use Rattle.crsm_spec.specs.Draft.{Draft}
use Rattle.crsm_fact_log.specs.Logs.{AllFit, Logged}
use Rattle.crsm_law_epoch.specs.Seats.{Seat, seat_up, Sender, Receiver, IsFirst, Facts, logs_of}
use Rattle.crsm_fact_log.proofs.Lists.{among_left, among_right, among_either, among_take}
use Rattle.crsm_law_epoch.proofs.Moved.{at, at_same}
use Rattle.crsm_law_epoch.proofs.Quiet.{quiet}

twice : (s u w : Seat) (b : Bool) → cond b s (cond b u w) ≡ cond b s w
twice s u w true = refl
twice s u w false = refl

pub at_at : (k : ℕ) (s u : Seat) (v : ℕ → Seat) → at k s (at k u v) ≡ at k s v
unfolding at
at_at k s u v = fun_ext (λ j. twice s u (v j) (eqb j k))

-- the datagrams of a step
abbrev pub outs : Draft → List Datagram
outs x = map (λ s. s.1) x.sends

-- ---- prefixes of what a step sends

pub take_either : {A : Type 0} (xs ys : List A) (c : ℕ) → (take c (xs ++ ys) ≡ take c xs) ⊎ ((d : ℕ) × (take c (xs ++ ys) ≡ xs ++ take d ys))
take_either [] ys c = inr (c, refl)
take_either (x ∷ xs) ys zero = inl refl
take_either (x ∷ xs) ys (suc c) = elim (take_either xs ys c) [ inl e ↦ inl (ap (λ l. x ∷ l) e) | inr w ↦ inr (w.0, ap (λ l. x ∷ l) w.1) ]

-- of the frames of k all lower ones are there
abbrev pub IsLowOf : ℕ → List Datagram → Type 0
IsLowOf k part = (j e i : ℕ) (p : InEpoch) (y : ℕ) → Among part (Datagram.Frame k j e i p) → y < i → (q : InEpoch) × Among part (Datagram.Frame k j e y q)

pub record IsPrefix (k : ℕ) (log : Log) (part : List Datagram) : Type 0 where
  pub first : IsFirst k log part
  pub low : IsLowOf k part

-- The facts of a draft of replica k, where the others have the seats v, and `sent` was sent before the step.
pub record Good (n k : ℕ) (v : ℕ → Seat) (sent : List Datagram) (x : Draft) : Type 0 where
  pub me : x.replica.me ≡ k
  pub size : x.replica.n ≡ n
  pub facts : Facts n (at k (seat_up x.replica) v) (sent ++ outs x)
  pub prefixes : (c : ℕ) → IsPrefix k x.replica.log (sent ++ take c (outs x))
  pub mine : (m j e i : ℕ) (p : InEpoch) → Among (outs x) (Datagram.Frame m j e i p) → m ≡ k

module _ (n k : ℕ) (v : ℕ → Seat) (sent : List Datagram) where
  abbrev G : Draft → Type 0
  G x = Good n k v sent x

  pub sends_more : (x y : Draft) (ds : List (ℕ × Datagram)) → y.sends ≡ x.sends ++ ds → outs y ≡ outs x ++ map (λ s. s.1) ds
  sends_more x y ds e = ap (map (λ s. s.1)) e ∙ map-append (λ s. s.1) x.sends ds

  -- a fact of the draft's own seat
  pub seat_fact : (x : Draft) (P : Seat → Type 0) → P (at k (seat_up x.replica) v k) → P (seat_up x.replica)
  seat_fact x P h = subst P (at_same n k v (seat_up x.replica)) h

  pub sender_of : (x : Draft) → G x → IsTrue (active x.replica.log) → Sender n k (seat_up x.replica) (sent ++ outs x)
  unfolding seat_up
  sender_of x g a = subst (λ s. IsTrue s.running → Sender n k s (sent ++ outs x)) (at_same n k v (seat_up x.replica)) (g.facts.sender k) a

  pub receiver_of : (x : Draft) → G x → IsTrue (active x.replica.log) → Receiver k (seat_up x.replica) (logs_of (at k (seat_up x.replica) v)) (sent ++ outs x)
  unfolding seat_up
  receiver_of x g a = subst (λ s. IsTrue s.running → Receiver k s (logs_of (at k (seat_up x.replica) v)) (sent ++ outs x)) (at_same n k v (seat_up x.replica)) (g.facts.receiver k) a

  pub fit_of : (x : Draft) → G x → AllFit k n x.replica.log
  unfolding seat_up
  fit_of x g = seat_fact x (λ s. AllFit k n s.log) (g.facts.fit k)

  -- datagrams that bring no new frame leave each prefix one
  pub prefixes_more : (x : Draft) (log : Log) (ds : List Datagram) → G x → ((f : Entry) → Logged log f → f.stamp.origin ≡ k → Logged x.replica.log f) →
      ((m j e i : ℕ) (p : InEpoch) → Among ds (Datagram.Frame m j e i p) → Among (sent ++ outs x) (Datagram.Frame m j e i p)) → (c : ℕ) → IsPrefix k log (sent ++ take c (outs x ++ ds))
  unfolding seat_up
  prefixes_more x log ds g lose old c = elim (take_either (outs x) ds c) [
    | inl e ↦ (let w = g.prefixes c in record {
      first = subst (λ l. IsFirst k log (sent ++ l)) (sym e) (λ f j i p h o a le. w.first f j i p (lose f h o) o a le);
      low = subst (λ l. IsLowOf k (sent ++ l)) (sym e) w.low;
    })
    | inr w ↦ record {
      first = subst (λ l. IsFirst k log (sent ++ l)) (sym w.1) (λ f j i p h o a le.
          let z = seat_fact x (λ s. IsFirst k s.log (sent ++ outs x)) (g.facts.first k) f j i p (lose f h o) o (back w.0 k j f.epoch i p a) le in
          (z.0, z.1, wide w.0 _ z.2));
      low = subst (λ l. IsLowOf k (sent ++ l)) (sym w.1) (λ j e i p y a lt. let z = g.facts.low k j e i p y (back w.0 k j e i p a) lt in (z.0, wide w.0 _ z.1));
    }
  ]
    where
      wide : (d : ℕ) (dg : Datagram) → Among (sent ++ outs x) dg → Among (sent ++ (outs x ++ take d ds)) dg
      wide d dg h = elim (among_either sent (outs x) dg h) [ inl a ↦ among_left sent _ dg a | inr b ↦ among_right sent _ dg (among_left (outs x) _ dg b) ]

      back : (d m j e i : ℕ) (p : InEpoch) → Among (sent ++ (outs x ++ take d ds)) (Datagram.Frame m j e i p) → Among (sent ++ outs x) (Datagram.Frame m j e i p)
      back d m j e i p h = elim (among_either sent _ _ h) [
        | inl a ↦ among_left sent _ _ a
        | inr b ↦ elim (among_either (outs x) (take d ds) _ b) [ inl a ↦ among_right sent _ _ a | inr a ↦ old m j e i p (among_take d ds _ a) ]
      ]

  -- what was out is out, and each frame that is out was
  pub all_more : (x y : Draft) (ds : List (ℕ × Datagram)) → y.sends ≡ x.sends ++ ds → (d : Datagram) → Among (sent ++ outs x) d → Among (sent ++ outs y) d
  all_more x y ds es d h = subst (λ l. Among (sent ++ l) d) (sym (sends_more x y ds es)) (go (among_either sent (outs x) d h))
    where
      go : Among sent d ⊎ Among (outs x) d → Among (sent ++ (outs x ++ map (λ s. s.1) ds)) d
      go (inl a) = among_left sent _ d a
      go (inr b) = among_right sent _ d (among_left (outs x) _ d b)

  pub all_back : (x y : Draft) (ds : List (ℕ × Datagram)) → y.sends ≡ x.sends ++ ds → ((m j e i : ℕ) (p : InEpoch) → Among (map (λ s. s.1) ds) (Datagram.Frame m j e i p) → Among (sent ++ outs x) (Datagram.Frame m j e i p)) →
      (m j e i : ℕ) (p : InEpoch) → Among (sent ++ outs y) (Datagram.Frame m j e i p) → Among (sent ++ outs x) (Datagram.Frame m j e i p)
  all_back x y ds es old m j e i p h = go (among_either sent (outs x ++ map (λ s. s.1) ds) _ (subst (λ l. Among (sent ++ l) (Datagram.Frame m j e i p)) (sends_more x y ds es) h))
    where
      new : Among (outs x) (Datagram.Frame m j e i p) ⊎ Among (map (λ s. s.1) ds) (Datagram.Frame m j e i p) → Among (sent ++ outs x) (Datagram.Frame m j e i p)
      new (inl c) = among_right sent _ _ c
      new (inr c) = old m j e i p c

      go : Among sent (Datagram.Frame m j e i p) ⊎ Among (outs x ++ map (λ s. s.1) ds) (Datagram.Frame m j e i p) → Among (sent ++ outs x) (Datagram.Frame m j e i p)
      go (inl a) = among_left sent _ _ a
      go (inr b) = new (among_either (outs x) (map (λ s. s.1) ds) _ b)

  -- Nothing is logged, and no new frame is sent.
  pub good_quiet : (x y : Draft) (ds : List (ℕ × Datagram)) → G x → y.replica.me ≡ x.replica.me → y.replica.n ≡ x.replica.n → y.sends ≡ x.sends ++ ds →
      ((m j e i : ℕ) (p : InEpoch) → Among (map (λ s. s.1) ds) (Datagram.Frame m j e i p) → (m ≡ k) × Among (sent ++ outs x) (Datagram.Frame m j e i p)) →
      AllFit k n y.replica.log → ((f : Entry) → Logged x.replica.log f → Logged y.replica.log f) → ((f : Entry) → Logged y.replica.log f → Logged x.replica.log f) →
      ((e : ℕ) → IsTrue (has_entered e x.replica.log) → IsTrue (has_entered e y.replica.log)) →
      (IsTrue (active y.replica.log) → Sender n k (seat_up y.replica) (sent ++ outs y)) →
      (IsTrue (active y.replica.log) → Receiver k (seat_up y.replica) (logs_of (at k (seat_up y.replica) v)) (sent ++ outs y)) → G y
  unfolding seat_up
  good_quiet x y ds g me size es old fit keeps lose grows sends takes =
      let eo = sends_more x y ds es in
      let u = seat_up x.replica in
      let s = seat_up y.replica in
      let w = at k u v in
      let all = sent ++ outs x in
      let after = sent ++ outs y in
      let more = all_more x y ds es in
      let back = all_back x y ds es (λ m j e i p h. (old m j e i p h).1) in
      let same_u = at_same n k v u in
      let f : Facts n (at k s w) after = quiet n k w all after s g.facts more back fit
      (subst (λ a. (f : Entry) → Logged a.log f → Logged s.log f) (sym same_u) keeps)
      (subst (λ a. (f : Entry) → Logged s.log f → Logged a.log f) (sym same_u) lose)
      (subst (λ a. (e : ℕ) → IsTrue (has_entered e a.log) → IsTrue (has_entered e s.log)) (sym same_u) grows)
      sends (λ r. subst (λ z. Receiver k s (logs_of z) after) (sym (at_at k s u v)) (takes r)) in
      record {
        me = me ∙ g.me;
        size = size ∙ g.size;
        facts = subst (λ z. Facts n z after) (at_at k s u v) f;
        prefixes = λ c. subst (λ l. IsPrefix k y.replica.log (sent ++ take c l)) (sym eo) (prefixes_more x y.replica.log (map (λ s. s.1) ds) g (λ f h o. lose f h) (λ m j e i p h. (old m j e i p h).1) c);
        mine = λ m j e i p h. elim (among_either (outs x) (map (λ s. s.1) ds) _ (subst (λ l. Among l (Datagram.Frame m j e i p)) eo h)) [
          | inl a ↦ g.mine m j e i p a
          | inr b ↦ (old m j e i p b).0
        ];
      }

  -- more was sent, and no new frame
  pub sender_more : (s : Seat) (all after : List Datagram) → ((d : Datagram) → Among all d → Among after d) →
      ((m j e i : ℕ) (p : InEpoch) → Among after (Datagram.Frame m j e i p) → Among all (Datagram.Frame m j e i p)) → Sender n k s all → Sender n k s after
  sender_more s all after more back o = record {
    own = o.own;
    top = o.top;
    told = o.told;
    rising = o.rising;
    times = o.times;
    peers = o.peers;
    only = λ j x p h. o.only j x p (back k j (known s.log) x p h);
    sent = λ j x p h. more _ (o.sent j x p h);
  }

  pub receiver_more : (s : Seat) (logs : ℕ → Log) (all after : List Datagram) → ((d : Datagram) → Among all d → Among after d) →
      ((m j e i : ℕ) (p : InEpoch) → Among after (Datagram.Frame m j e i p) → Among all (Datagram.Frame m j e i p)) → Receiver k s logs all → Receiver k s logs after
  receiver_more s logs all after more back o = record {
    has_it = λ m x f lt h. o.has_it m x f lt (back m k (known s.log) x _ h);
    came = λ m x lt. let c = o.came m x lt in (c.0, more _ c.1);
    times = λ m t h. let c = o.times m t h in (c.0, c.1, c.2, more _ c.3, c.4);
    others = o.others;
    votes = o.votes;
    owed = o.owed;
  }
