-- Logs with records appended, and the entries logged in an epoch: they rise, and grow with the log.
use Rattle.std.proofs.Common.{◌≡◌, ℕ, Bool, true, false, refl, sym, ◌∙◌, subst, ◌⊎◌, inl, inr, arith, List, [], ◌∷◌, ◌++◌, cond, ap, ◌<◌}
use Rattle.std.proofs.lemmas.Bool.{eqb-true, and_parts, ltb-true}
use Rattle.std.proofs.lemmas.Bool.Decides.{nat_tests}
use Rattle.std.specs.Prelude.{IsTrue, not, ◌==◌, ◌&&◌, ◌||◌, nat_lt, ◌⊎◌, Some}
use Rattle.std.specs.List.{AllByRecursion}
use Rattle.crsm_spec.specs.Types.{Stamp, Entry, Rec, Decision}
use Rattle.crsm_base.specs.Order.{stamp_lt}
use Rattle.crsm_spec.specs.Lists.{has, Among}
use Rattle.crsm_spec.specs.Log.{Log, known, members, with_entry, logged_in, logged, active}
use Rattle.crsm_spec.specs.Fits.{fits, is_newest, booted, can_be_members}
use Rattle.crsm_fact_log.specs.Logs.{with_records, Extends, same, more, AllFit, Logged}
use Rattle.crsm_fact_log.specs.Rising.{Rises}
use Rattle.crsm_fact_log.proofs.Sorted.{Lt, Le, lt_trans, lt_or_le}
use Rattle.crsm_fact_log.proofs.Lists.{all_at, all_from, list_all_at}
use Rattle.crsm_spec.specs.Quorum.{spec_decided}

pub extends_trans : {a b c : Log} → Extends a b → Extends b c → Extends a c
extends_trans p same = p
extends_trans p (more rec q) = more rec (extends_trans p q)

pub end_fits : (me n : ℕ) {a b : Log} → Extends a b → AllFit me n b → AllFit me n a
end_fits me n same h = h
end_fits me n (more rec q) h = end_fits me n q h.1

-- one record more behind others
pub with_records-push : (log : Log) (recs : List Rec) (rec : Rec) → with_records log (recs ++ rec ∷ []) ≡ rec ∷ with_records log recs
with_records-push log [] rec = refl
with_records-push log (r ∷ recs) rec = with_records-push (r ∷ log) recs rec

-- ---- an entry more

pub entry_from : (e : Entry) (xs : List Entry) (z : Entry) → Among (with_entry e xs) z → Among xs z ⊎ (e ≡ z)
unfolding with_entry
entry_from e [] z (inl f) = inr f
entry_from e [] z (inr m) = absurd m
entry_from e (f ∷ xs) z m = go (stamp_lt e.stamp f.stamp) m (entry_from e xs z)
  where
    go : (b : Bool) → Among (cond b (e ∷ f ∷ xs) (f ∷ with_entry e xs)) z → (Among (with_entry e xs) z → Among xs z ⊎ (e ≡ z)) → Among (f ∷ xs) z ⊎ (e ≡ z)
    go true (inl g) r = inr g
    go true (inr n) r = inl n
    go false (inl g) r = inl (inl g)
    go false (inr n) r = elim (r n) [ inl o ↦ inl (inr o) | inr g ↦ inr g ]

pub entry_keeps : (e : Entry) (xs : List Entry) (z : Entry) → Among xs z → Among (with_entry e xs) z
unfolding with_entry
entry_keeps e [] z m = absurd m
entry_keeps e (f ∷ xs) z m = go (stamp_lt e.stamp f.stamp) m (entry_keeps e xs z)
  where
    go : (b : Bool) → Among (f ∷ xs) z → (Among xs z → Among (with_entry e xs) z) → Among (cond b (e ∷ f ∷ xs) (f ∷ with_entry e xs)) z
    go true n r = inr n
    go false (inl g) r = inl g
    go false (inr n) r = inr (r n)

pub entry_in : (e : Entry) (xs : List Entry) → Among (with_entry e xs) e
unfolding with_entry
entry_in e [] = inl refl
entry_in e (f ∷ xs) = go (stamp_lt e.stamp f.stamp) (entry_in e xs)
  where
    go : (b : Bool) → Among (with_entry e xs) e → Among (cond b (e ∷ f ∷ xs) (f ∷ with_entry e xs)) e
    go true r = inl refl
    go false r = inr r

-- the stamps of two entries differ
abbrev pub Apart : Entry → Entry → Type 0
Apart e f = Lt e.stamp f.stamp ⊎ Lt f.stamp e.stamp

entry_rises : (e : Entry) (xs : List Entry) → Rises xs → AllByRecursion (λ f. Apart e f) xs → Rises (with_entry e xs)
unfolding with_entry
entry_rises e [] h k = (tt, tt)
entry_rises e (f ∷ xs) h k = go (stamp_lt e.stamp f.stamp) refl k.0 (entry_rises e xs h.1 k.1)
  where
    go : (b : Bool) → stamp_lt e.stamp f.stamp ≡ b → Apart e f → Rises (with_entry e xs) → Rises (cond b (e ∷ f ∷ xs) (f ∷ with_entry e xs))
    go true p a r = ((p, all_from (λ z. Lt e.stamp z.stamp) xs (λ z m. lt_trans e.stamp f.stamp z.stamp p (all_at (λ z. Lt f.stamp z.stamp) xs z h.0 m))), h)
    go false p (inl q) r = absurd (cc (sym p ∙ q))
    go false p (inr q) r =
        (all_from (λ z. Lt f.stamp z.stamp) (with_entry e xs) (λ z m. elim (entry_from e xs z m) [ inl n ↦ all_at (λ z. Lt f.stamp z.stamp) xs z h.0 n | inr g ↦ subst (λ (w : Entry). Lt f.stamp w.stamp) g q ]), r)

-- ---- what is newer than what is logged

not_both_le : (a b : Stamp) → IsTrue (not (b.origin == a.origin) || nat_lt b.time a.time) → Le a b → Lt b a ⊎ Lt a b
unfolding stamp_lt
not_both_le a b h l = grind (arith, nat_tests)

newest_apart : (e f : Entry) → IsTrue (not (f.stamp.origin == e.stamp.origin) || nat_lt f.stamp.time e.stamp.time) → Apart e f
newest_apart e f h = go (lt_or_le f.stamp e.stamp)
  where
    go : Lt f.stamp e.stamp ⊎ Le e.stamp f.stamp → Apart e f
    go (inl l) = inr l
    go (inr l) = elim (not_both_le e.stamp f.stamp h l) [ inl m ↦ inr m | inr m ↦ inl m ]

pub newest_all : (e : Entry) (xs : List Entry) → IsTrue (is_newest e xs) → AllByRecursion (λ f. Apart e f) xs
unfolding is_newest
newest_all e xs h = all_from (λ f. Apart e f) xs (λ f m. newest_apart e f (list_all_at _ xs f h m))

-- ---- the log

pub prepare_known : (me n : ℕ) (log : Log) (e : Entry) → IsTrue (fits me n log (Rec.Prepare e)) → (e.epoch ≡ known log) × IsTrue (is_newest e (logged log)) × IsTrue (active log)
unfolding fits
prepare_known me n log e h =
    let a = and_parts _ (is_newest e (logged log)) h in
    let b = and_parts (active log && (e.epoch == known log)) (has (members n log) e.stamp.origin) a.0 in
    let c = and_parts (active log) (e.epoch == known log) b.0 in
    (eqb-true e.epoch (known log) c.1, a.1, c.0)

pub logged_rises : (me n x : ℕ) (log : Log) → AllFit me n log → Rises (logged_in x log)
unfolding logged_in logged
logged_rises me n x [] h = tt
logged_rises me n x (Rec.Prepare e ∷ log) h = go (e.epoch == x) refl (logged_rises me n x log h.1)
  where
    newest : e.epoch ≡ x → IsTrue (is_newest e (logged_in x log))
    newest g = let k = prepare_known me n log e h.0 in subst (λ y. IsTrue (is_newest e (logged_in y log))) (sym k.0 ∙ g) k.1

    go : (b : Bool) → (e.epoch == x) ≡ b → Rises (logged_in x log) → Rises (cond b (with_entry e (logged_in x log)) (logged_in x log))
    go true g r = entry_rises e (logged_in x log) r (newest_all e (logged_in x log) (newest (eqb-true e.epoch x g)))
    go false g r = r
logged_rises me n x (_ ∷ log) h = logged_rises me n x log h.1

pub logged_epoch : (x : ℕ) (log : Log) (z : Entry) → Among (logged_in x log) z → z.epoch ≡ x
unfolding logged_in
logged_epoch x [] z m = absurd m
logged_epoch x (Rec.Prepare e ∷ log) z m = go (e.epoch == x) refl m (logged_epoch x log z)
  where
    go : (b : Bool) → (e.epoch == x) ≡ b → Among (cond b (with_entry e (logged_in x log)) (logged_in x log)) z → (Among (logged_in x log) z → z.epoch ≡ x) → z.epoch ≡ x
    go true g n r = elim (entry_from e (logged_in x log) z n) [ inl o ↦ r o | inr f ↦ subst (λ (w : Entry). w.epoch ≡ x) f (eqb-true e.epoch x g) ]
    go false g n r = r n
logged_epoch x (_ ∷ log) z m = logged_epoch x log z m

logged_more : (x : ℕ) (log : Log) (rec : Rec) (z : Entry) → Among (logged_in x log) z → Among (logged_in x (rec ∷ log)) z
unfolding logged_in
logged_more x log (Rec.Prepare e) z m = go (e.epoch == x)
  where
    go : (b : Bool) → Among (cond b (with_entry e (logged_in x log)) (logged_in x log)) z
    go true = entry_keeps e (logged_in x log) z m
    go false = m
logged_more x log _ z m = m

pub logged_grows : (x : ℕ) (z : Entry) {a b : Log} → Extends a b → Among (logged_in x a) z → Among (logged_in x b) z
logged_grows x z same m = m
logged_grows x z (more {new = new} rec q) m = logged_more x new rec z (logged_grows x z q m)

pub logged_is : (x : ℕ) (log : Log) (z : Entry) → Among (logged_in x log) z → Logged log z × (z.epoch ≡ x)
unfolding logged_in
logged_is x [] z h = absurd h
logged_is x (Rec.Prepare e ∷ log) z h = go (λ a. logged_is x log z a) (e.epoch == x) refl h
  where
    go : (Among (logged_in x log) z → Logged log z × (z.epoch ≡ x)) → (b : Bool) → (e.epoch == x) ≡ b → Among (cond b (with_entry e (logged_in x log)) (logged_in x log)) z → Logged (Rec.Prepare e ∷ log) z × (z.epoch ≡ x)
    go is true q a = elim (entry_from e (logged_in x log) z a) [
      | inl i ↦ (let t = is i in (inr t.0, t.1))
      | inr i ↦ (inl (ap Rec.Prepare i), ap (λ w. w.epoch) (sym i) ∙ eqb-true e.epoch x q)
    ]
    go is false q a = let t = is a in (inr t.0, t.1)
logged_is x (Rec.Boot me n ∷ log) z h = let t = logged_is x log z h in (inr t.0, t.1)
logged_is x (Rec.Commit s ∷ log) z h = let t = logged_is x log z h in (inr t.0, t.1)
logged_is x (Rec.Adopt place es ∷ log) z h = let t = logged_is x log z h in (inr t.0, t.1)
logged_is x (Rec.Suspend e ∷ log) z h = let t = logged_is x log z h in (inr t.0, t.1)
logged_is x (Rec.Promise i b ∷ log) z h = let t = logged_is x log z h in (inr t.0, t.1)
logged_is x (Rec.Accept i b d ∷ log) z h = let t = logged_is x log z h in (inr t.0, t.1)
logged_is x (Rec.Decide d ∷ log) z h = let t = logged_is x log z h in (inr t.0, t.1)
logged_is x (Rec.Enter e ∷ log) z h = let t = logged_is x log z h in (inr t.0, t.1)

pub decide_above : (me n : ℕ) (log : Log) (d : Decision) → IsTrue (fits me n log (Rec.Decide d)) → known log < d.epoch
unfolding fits
decide_above me n log d h =
    let b = and_parts _ (can_be_members (spec_decided n (Some d)) d.members) h in
    ltb-true (known log) d.epoch (and_parts (booted log) (nat_lt (known log) d.epoch) b.0).1
