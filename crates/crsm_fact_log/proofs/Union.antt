-- The union of the reports' entries: it rises, and has one entry of each stamp.
use Rattle.std.proofs.Common.{arith, ◌≡◌, Bool, true, false, refl, ◌∙◌, subst, ap, ◌⊎◌, inl, inr, List, [], ◌∷◌, cond}
use Rattle.std.proofs.lemmas.Bool.Decides.{nat_tests}
use Rattle.std.specs.Prelude.{fold}
use Rattle.crsm_spec.specs.Types.{Stamp, Entry}
use Rattle.crsm_base.specs.Order.{stamp_lt, stamp_eq}
use Rattle.crsm_spec.specs.Lists.{Among}
use Rattle.crsm_spec.specs.Collect.{with_new, union}
use Rattle.crsm_fact_log.specs.Rising.{Rises}
use Rattle.crsm_fact_log.proofs.Sorted.{Lt, lt_trans, le_both, eq_le}
use Rattle.crsm_fact_log.proofs.Lists.{all_at, all_from}

pub new_from : (xs : List Entry) (e z : Entry) → Among (with_new xs e) z → Among xs z ⊎ (e ≡ z)
unfolding with_new
new_from [] e z (inl f) = inr f
new_from [] e z (inr m) = absurd m
new_from (f ∷ xs) e z m = go (stamp_lt e.stamp f.stamp) (stamp_eq e.stamp f.stamp) m (new_from xs e z)
  where
    go : (b c : Bool) → Among (cond b (e ∷ f ∷ xs) (cond c (f ∷ xs) (f ∷ with_new xs e))) z → (Among (with_new xs e) z → Among xs z ⊎ (e ≡ z)) → Among (f ∷ xs) z ⊎ (e ≡ z)
    go true c (inl g) r = inr g
    go true c (inr n) r = inl n
    go false true n r = inl n
    go false false (inl g) r = inl (inl g)
    go false false (inr n) r = elim (r n) [ inl o ↦ inl (inr o) | inr g ↦ inr g ]

pub new_keeps : (xs : List Entry) (e z : Entry) → Among xs z → Among (with_new xs e) z
unfolding with_new
new_keeps [] e z m = absurd m
new_keeps (f ∷ xs) e z m = go (stamp_lt e.stamp f.stamp) (stamp_eq e.stamp f.stamp) m (new_keeps xs e z)
  where
    go : (b c : Bool) → Among (f ∷ xs) z → (Among xs z → Among (with_new xs e) z) → Among (cond b (e ∷ f ∷ xs) (cond c (f ∷ xs) (f ∷ with_new xs e))) z
    go true c n r = inr n
    go false true n r = n
    go false false (inl g) r = inl g
    go false false (inr n) r = inr (r n)

-- an entry of its stamp is there
abbrev pub Has : List Entry → Stamp → Type 0
Has xs s = (z : Entry) × Among xs z × (z.stamp ≡ s)

pub new_has : (xs : List Entry) (e : Entry) → Has (with_new xs e) e.stamp
unfolding with_new
new_has [] e = (e, inl refl, refl)
new_has (f ∷ xs) e = go (stamp_lt e.stamp f.stamp) (stamp_eq e.stamp f.stamp) refl (new_has xs e)
  where
    go : (b c : Bool) → stamp_eq e.stamp f.stamp ≡ c → Has (with_new xs e) e.stamp → Has (cond b (e ∷ f ∷ xs) (cond c (f ∷ xs) (f ∷ with_new xs e))) e.stamp
    go true c g r = (e, inl refl, refl)
    go false true g r = let l = eq_le e.stamp f.stamp g in (f, inl refl, le_both f.stamp e.stamp l.1 l.0)
    go false false g r = (r.0, inr r.1, r.2)

pub not_eq : (a b : Stamp) → stamp_lt a b ≡ false → stamp_eq a b ≡ false → Lt b a
unfolding stamp_lt stamp_eq
not_eq a b p q = grind (arith, nat_tests)

pub new_rises : (xs : List Entry) (e : Entry) → Rises xs → Rises (with_new xs e)
unfolding with_new
new_rises [] e h = (tt, tt)
new_rises (f ∷ xs) e h = go (stamp_lt e.stamp f.stamp) (stamp_eq e.stamp f.stamp) refl refl (new_rises xs e h.1)
  where
    go : (b c : Bool) → stamp_lt e.stamp f.stamp ≡ b → stamp_eq e.stamp f.stamp ≡ c → Rises (with_new xs e) → Rises (cond b (e ∷ f ∷ xs) (cond c (f ∷ xs) (f ∷ with_new xs e)))
    go true c p q r = ((p, all_from (λ z. Lt e.stamp z.stamp) xs (λ z m. lt_trans e.stamp f.stamp z.stamp p (all_at (λ z. Lt f.stamp z.stamp) xs z h.0 m))), h)
    go false true p q r = h
    go false false p q r =
        (all_from (λ z. Lt f.stamp z.stamp) (with_new xs e) (λ z m. elim (new_from xs e z m) [ inl n ↦ all_at (λ z. Lt f.stamp z.stamp) xs z h.0 n | inr g ↦ subst (λ (w : Entry). Lt f.stamp w.stamp) g (not_eq e.stamp f.stamp p q) ]), r)

-- ---- all of them, one after another

fold_rises : (es acc : List Entry) → Rises acc → Rises (fold with_new acc es)
fold_rises [] acc h = h
fold_rises (e ∷ es) acc h = fold_rises es (with_new acc e) (new_rises acc e h)

fold_from : (es acc : List Entry) (z : Entry) → Among (fold with_new acc es) z → Among acc z ⊎ Among es z
fold_from [] acc z m = inl m
fold_from (e ∷ es) acc z m = go (fold_from es (with_new acc e) z m)
  where
    go : Among (with_new acc e) z ⊎ Among es z → Among acc z ⊎ Among (e ∷ es) z
    go (inl n) = elim (new_from acc e z n) [ inl o ↦ inl o | inr g ↦ inr (inl g) ]
    go (inr n) = inr (inr n)

fold_keeps : (es acc : List Entry) (z : Entry) → Among acc z → Among (fold with_new acc es) z
fold_keeps [] acc z m = m
fold_keeps (e ∷ es) acc z m = fold_keeps es (with_new acc e) z (new_keeps acc e z m)

fold_has : (es acc : List Entry) (z : Entry) → Among es z → Has (fold with_new acc es) z.stamp
fold_has [] acc z m = absurd m
fold_has (e ∷ es) acc z (inl g) = let r = new_has acc e in (r.0, fold_keeps es (with_new acc e) r.0 r.1, r.2 ∙ ap (λ (w : Entry). w.stamp) g)
fold_has (e ∷ es) acc z (inr m) = fold_has es (with_new acc e) z m

pub union_rises : (es : List Entry) → Rises (union es)
unfolding union
union_rises es = fold_rises es [] tt

pub union_from : (es : List Entry) (z : Entry) → Among (union es) z → Among es z
unfolding union
union_from es z m = elim (fold_from es [] z m) [ inl n ↦ absurd n | inr n ↦ n ]

pub union_has : (es : List Entry) (z : Entry) → Among es z → (w : Entry) × Among (union es) w × (w.stamp ≡ z.stamp)
unfolding union
union_has es z m = fold_has es [] z m
