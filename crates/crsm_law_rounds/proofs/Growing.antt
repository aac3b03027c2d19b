-- A replica later in the same epoch.
use Rattle.std.proofs.Common.{◌≡◌, ℕ, ◌+◌, ◌≤◌, List, [], ◌∷◌, ◌++◌, length, refl, sym, ◌∙◌, ap, subst, inl, inr, Bool, true, false, cond, arith, map, max, length-append}
use Rattle.std.specs.Prelude.{◌≢◌, ◌⊎◌, IsTrue, filter, count_by, ◌==◌, not, ◌||◌, nat_lt}
use Rattle.std.proofs.lemmas.Bool.{cases_eq, eq-eqb, false≢true, ltb-true}
use Rattle.std.proofs.lemmas.List.Sums.{sum_by-append}
use Rattle.std.proofs.lemmas.List.Elements.{filter-append}
use Rattle.std.proofs.lemmas.List.{map-append}
use Rattle.crsm_spec.specs.Types.{Entry, Rec}
use Rattle.crsm_spec.specs.Lists.{Among, greatest}
use Rattle.crsm_spec.specs.Log.{Log, known, decision, members, active, live, suspended, logged, logged_in}
use Rattle.crsm_spec.specs.Fits.{fits, is_newest}
use Rattle.crsm_spec.specs.Replica.{Replica, next_from, acked_by}
use Rattle.crsm_fact_log.specs.Logs.{AllFit, Extends, same, more, Logged}
use Rattle.crsm_fact_log.proofs.Logged.{prepare_known}
use Rattle.crsm_fact_log.proofs.Lists.{list_all_at}
use Rattle.crsm_law_agreement.proofs.Logs.{is_logged}
use Rattle.crsm_law_active.specs.Staying.{GrowsBy, IsEndOf}
use Rattle.crsm_law_active.proofs.Ending.{grows_then, end_self, end_then}

-- ---- logs that grow

pub grows_decision : (me : ℕ) {a b : Log} {xs : List Entry} → GrowsBy me a xs b → decision b ≡ decision a
unfolding decision
grows_decision me GrowsBy.same = refl
grows_decision me (GrowsBy.entry f ne p) = grows_decision me p
grows_decision me (GrowsBy.commit s p) = grows_decision me p

pub grows_known : (me : ℕ) {a b : Log} {xs : List Entry} → GrowsBy me a xs b → known b ≡ known a
unfolding known
grows_known me p = rw (grows_decision me p) refl

grows_live : (me : ℕ) {a b : Log} {xs : List Entry} → GrowsBy me a xs b → live b ≡ live a
unfolding live
grows_live me GrowsBy.same = refl
grows_live me (GrowsBy.entry f ne p) = grows_live me p
grows_live me (GrowsBy.commit s p) = grows_live me p

grows_suspended : (me : ℕ) {a b : Log} {xs : List Entry} → GrowsBy me a xs b → suspended b ≡ suspended a
unfolding suspended
grows_suspended me GrowsBy.same = refl
grows_suspended me (GrowsBy.entry f ne p) = grows_suspended me p
grows_suspended me (GrowsBy.commit s p) = grows_suspended me p

pub grows_active : (me : ℕ) {a b : Log} {xs : List Entry} → GrowsBy me a xs b → active b ≡ active a
unfolding active
grows_active me p = rw (grows_live me p, grows_suspended me p) refl

pub grows_members : (me n : ℕ) {a b : Log} {xs : List Entry} → GrowsBy me a xs b → members n b ≡ members n a
unfolding members
grows_members me n p = rw (grows_decision me p) refl

pub grows_extends : (me : ℕ) {a b : Log} {xs : List Entry} → GrowsBy me a xs b → Extends a b
grows_extends me GrowsBy.same = same
grows_extends me (GrowsBy.entry f ne p) = more _ (grows_extends me p)
grows_extends me (GrowsBy.commit s p) = more _ (grows_extends me p)

pub logged_on : {a b : Log} (f : Entry) → Extends a b → Logged a f → Logged b f
logged_on f same h = h
logged_on f (more rec p) h = inr (logged_on f p h)

-- what is logged was, or is new
pub grows_back : (me : ℕ) {a b : Log} {xs : List Entry} → GrowsBy me a xs b → (f : Entry) → Logged b f → Logged a f ⊎ Among xs f
grows_back me GrowsBy.same f h = inl h
grows_back me (GrowsBy.entry g ne p) f (inl e) = inr (inl (same_entry g f e))
  where
    same_entry : (g f : Entry) → Rec.Prepare g ≡ Rec.Prepare f → g ≡ f
    same_entry g f e = cc
grows_back me (GrowsBy.entry g ne p) f (inr h) = elim (grows_back me p f h) [ inl o ↦ inl o | inr o ↦ inr (inr o) ]
grows_back me (GrowsBy.commit s p) f (inl e) = absurd (cc)
grows_back me (GrowsBy.commit s p) f (inr h) = grows_back me p f h

others_new : (me : ℕ) {a b : Log} {xs : List Entry} → GrowsBy me a xs b → (f : Entry) → Among xs f → f.stamp.origin ≢ me
others_new me GrowsBy.same f h = absurd h
others_new me (GrowsBy.entry g ne p) f (inl e) = λ o. ne (ap (λ z. z.stamp.origin) e ∙ o)
others_new me (GrowsBy.entry g ne p) f (inr h) = others_new me p f h
others_new me (GrowsBy.commit s p) f h = others_new me p f h

-- an own entry is no new one
pub grows_own : (me : ℕ) {a b : Log} {xs : List Entry} → GrowsBy me a xs b → (f : Entry) → f.stamp.origin ≡ me → Logged b f → Logged a f
grows_own me p f o h = elim (grows_back me p f h) [ inl q ↦ q | inr q ↦ absurd (others_new me p f q o) ]

pub grows_new : (me : ℕ) {a b : Log} {xs : List Entry} → GrowsBy me a xs b → (f : Entry) → Among xs f → Logged b f
grows_new me GrowsBy.same f h = absurd h
grows_new me (GrowsBy.entry g ne p) f (inl e) = inl (ap Rec.Prepare e)
grows_new me (GrowsBy.entry g ne p) f (inr h) = inr (grows_new me p f h)
grows_new me (GrowsBy.commit s p) f h = inr (grows_new me p f h)

-- the new entries are of the known epoch
pub grows_epoch : (me k n : ℕ) {a b : Log} {xs : List Entry} → GrowsBy me a xs b → AllFit k n b → (f : Entry) → Among xs f → f.epoch ≡ known a
grows_epoch me k n GrowsBy.same h f m = absurd m
grows_epoch me k n (GrowsBy.entry {new = log} g ne p) h f (inl e) = ap (λ z. z.epoch) (sym e) ∙ (prepare_known k n log g h.0).0 ∙ grows_known me p
grows_epoch me k n (GrowsBy.entry g ne p) h f (inr m) = grows_epoch me k n p h.1 f m
grows_epoch me k n (GrowsBy.commit s p) h f m = grows_epoch me k n p h.1 f m

-- an entry that fits is not logged yet
fresh_entry : (k n : ℕ) (log : Log) (g : Entry) → IsTrue (fits k n log (Rec.Prepare g)) → Logged log g → ⊥
unfolding is_newest logged
fresh_entry k n log g h m =
    let t = prepare_known k n log g h in
    let here = is_logged (known log) log g m t.0 in
    let test = list_all_at (λ f. not (f.stamp.origin == g.stamp.origin) || nat_lt f.stamp.time g.stamp.time) (logged log) g t.1 (in_logged here) in
    go (g.stamp.origin == g.stamp.origin) (eq-eqb g.stamp.origin g.stamp.origin refl) test
  where
    in_logged : Among (logged_in (known log) log) g → Among (logged log) g
    in_logged q = q

    go : (b : Bool) → b ≡ true → (not b || nat_lt g.stamp.time g.stamp.time) ≡ true → ⊥
    go true e q = (let lt = ltb-true g.stamp.time g.stamp.time q in omega (arith, lt))
    go false e q = false≢true e

-- no entry stands twice
abbrev pub IsSet : {A : Type 0} → List A → Type 0
IsSet [] = Unit {0}
IsSet (x ∷ xs) = (Among xs x → ⊥) × IsSet xs

-- the new entries are distinct, and had not been logged
pub grows_set : (me k n : ℕ) {a b : Log} {xs : List Entry} → GrowsBy me a xs b → AllFit k n b → IsSet xs × ((f : Entry) → Among xs f → Logged a f → ⊥)
grows_set me k n GrowsBy.same h = (tt, λ f m. absurd m)
grows_set me k n (GrowsBy.entry {new = log} g ne p) h =
    let t = grows_set me k n p h.1 in
    let new = fresh_entry k n log g h.0 in (
      (λ m. new (grows_new me p g m), t.0),
      λ f m l. elim m [ inl e ↦ new (logged_on g (grows_extends me p) (subst (Logged _) (sym e) l)) | inr q ↦ t.1 f q l ],
    )
grows_set me k n (GrowsBy.commit s p) h = grows_set me k n p h.1

-- ---- what is in front only adds

pub next_later : (r q : Replica) (m : ℕ) → IsEndOf r.taken q.taken → next_from r m ≤ next_from q m
unfolding next_from
next_later r q m e =
    let s = ap (count_by (λ j. j == m)) e.1 in
    let t = sum_by-append (λ j. cond (j == m) 1 0) e.0 r.taken in
    omega (arith, s, t)

greatest_right : (xs ys : List ℕ) → greatest ys ≤ greatest (xs ++ ys)
unfolding greatest
greatest_right [] ys = omega arith
greatest_right (x ∷ xs) ys = let t = greatest_right xs ys in omega (arith, t)

pub acked_later : (r q : Replica) (j : ℕ) → IsEndOf r.acked q.acked → acked_by r j ≤ acked_by q j
unfolding acked_by
acked_later r q j e =
    let is = ap (λ l. greatest (map (λ (a : ℕ × ℕ). a.1) (filter (λ a. a.0 == j) l))) e.1
    ∙ ap (λ l. greatest (map (λ (a : ℕ × ℕ). a.1) l)) (filter-append (λ (a : ℕ × ℕ). a.0 == j) e.0 r.acked)
    ∙ ap greatest (map-append (λ (a : ℕ × ℕ). a.1) (filter (λ a. a.0 == j) e.0) (filter (λ a. a.0 == j) r.acked)) in
    let le = greatest_right (map (λ (a : ℕ × ℕ). a.1) (filter (λ a. a.0 == j) e.0)) (map (λ (a : ℕ × ℕ). a.1) (filter (λ a. a.0 == j) r.acked)) in
    omega (arith, is, le)

-- the greatest of some numbers is one of them, or 0
pub greatest_among : (xs : List ℕ) → (greatest xs ≡ 0) ⊎ Among xs (greatest xs)
unfolding greatest
greatest_among [] = inl refl
greatest_among (x ∷ xs) = go (cases_eq (max x (greatest xs)) x) (greatest_among xs)
  where
    go : (max x (greatest xs) ≡ x) ⊎ (max x (greatest xs) ≢ x) → (greatest xs ≡ 0) ⊎ Among xs (greatest xs) → (max x (greatest xs) ≡ 0) ⊎ ((x ≡ max x (greatest xs)) ⊎ Among xs (max x (greatest xs)))
    go (inl e) r = inr (inl (sym e))
    go (inr ne) (inl z) = absurd (omega (arith, z, ne))
    go (inr ne) (inr m) = inr (inr (subst (Among xs) (omega (arith, ne)) m))

-- ---- one replica, now and later

pub record IsLater (ticks : ℕ) (r q : Replica) : Type 0 where
  pub me : q.me ≡ r.me
  pub n : q.n ≡ r.n
  pub entries : List Entry
  pub log : GrowsBy r.me r.log entries q.log
  pub taken : IsEndOf r.taken q.taken
  pub acked : IsEndOf r.acked q.acked
  pub issued : IsEndOf r.issued q.issued
  pub times : length q.issued + length q.owed ≤ length r.issued + length r.owed + length entries + ticks

pub later_self : (r : Replica) → IsLater 0 r r
later_self r = record { me = refl; n = refl; entries = []; log = GrowsBy.same; taken = end_self r.taken; acked = end_self r.acked; issued = end_self r.issued; times = omega arith }

pub later_then : {a b : ℕ} {r q s : Replica} → IsLater a r q → IsLater b q s → IsLater (b + a) r s
later_then {a} {b} {r} {q} {s} p o = record {
  me = o.me ∙ p.me;
  n = o.n ∙ p.n;
  entries = o.entries ++ p.entries;
  log = grows_then r.me p.log (subst (λ k. GrowsBy k q.log o.entries s.log) p.me o.log);
  taken = end_then p.taken o.taken;
  acked = end_then p.acked o.acked;
  issued = end_then p.issued o.issued;
  times = (let e = length-append o.entries p.entries in let x = p.times in let y = o.times in omega (arith, e, x, y));
}
