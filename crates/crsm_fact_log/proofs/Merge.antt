-- The union of the entries of reports, and ways to compute it.
use Rattle.std.proofs.Common.{append_assoc, ◌≡◌, ℕ, ◌+◌, ◌<◌, ◌≤◌, Bool, true, false, refl, sym, ◌∙◌, subst, ap, ◌⊎◌, inl, inr, arith, List, [], ◌∷◌, ◌++◌, length, cond, map}
use Rattle.std.proofs.lemmas.List.{append-nil}
use Rattle.std.proofs.lemmas.Bool.{eqb-true, eq-eqb, ltb-true, ltb-false, false≢true}
use Rattle.std.proofs.lemmas.List.Sums.{sum_by-cons, length-filter}
use Rattle.std.specs.Prelude.{IsTrue, ◌==◌, nat_lt, Option, Some, None, filter, fold, flat_map, count_by}
use Rattle.std.specs.List.{AllByRecursion}
use Rattle.crsm_spec.specs.Types.{Stamp, Entry}
use Rattle.crsm_base.specs.Order.{stamp_lt, stamp_eq}
use Rattle.crsm_spec.specs.Lists.{has, Among}
use Rattle.crsm_spec.specs.Log.{above}
use Rattle.crsm_spec.specs.Collect.{with_new, union, is_whole, whole_ones}
use Rattle.crsm_fact_log.specs.Rising.{Rises, IsAbove}
use Rattle.crsm_fact_log.specs.Merging.{IsFirst, IsUnion, UnionIsOne, UnionGoesOn, UnionOfSame, with_least, merged, came_of, Ascends, MergedAsTheyCome, WholeOnesAreMany}
use Rattle.crsm_fact_log.proofs.Tests.{same_stamp}
use Rattle.crsm_fact_log.proofs.Sorted.{Lt, Le, lt_trans, lt_not, le_self, eq_le, eq_self, lt_is_le, same_rising, rises_above, above_from, above_in}
use Rattle.crsm_fact_log.proofs.Lists.{all_at, all_from, among_either, kept_from, kept_in, has_in, flat_from}
use Rattle.crsm_fact_log.proofs.Union.{union_rises, union_from, union_has, new_has, new_keeps, new_from, new_rises, not_eq}

-- ---- firsts

first_in : (es : List Entry) (z : Entry) → IsFirst es z → Among es z
first_in [] z f = absurd f
first_in (e ∷ es) z (inl g) = inl g
first_in (e ∷ es) z (inr f) = inr (first_in es z f.1)

first_one : (es : List Entry) (y z : Entry) → IsFirst es y → IsFirst es z → y.stamp ≡ z.stamp → y ≡ z
first_one [] y z f g e = absurd f
first_one (x ∷ es) y z (inl f) (inl g) e = sym f ∙ g
first_one (x ∷ es) y z (inl f) (inr g) e = absurd (g.0 (ap (λ (w : Entry). w.stamp) f ∙ e))
first_one (x ∷ es) y z (inr f) (inl g) e = absurd (f.0 (ap (λ (w : Entry). w.stamp) g ∙ sym e))
first_one (x ∷ es) y z (inr f) (inr g) e = first_one es y z f.1 g.1 e

first_more : (es fs : List Entry) (z : Entry) → IsFirst es z → IsFirst (es ++ fs) z
first_more [] fs z f = absurd f
first_more (e ∷ es) fs z (inl g) = inl g
first_more (e ∷ es) fs z (inr f) = inr (f.0, first_more es fs z f.1)

-- a first behind entries of other stamps
first_behind : (es fs : List Entry) (z : Entry) → ((y : Entry) → Among es y → y.stamp ≡ z.stamp → ⊥) → IsFirst fs z → IsFirst (es ++ fs) z
first_behind [] fs z h f = f
first_behind (e ∷ es) fs z h f = inr (h e (inl refl), first_behind es fs z (λ y m. h y (inr m)) f)

-- two lists that are a union are one
unions_same : (es xs ys : List Entry) → IsUnion es xs → IsUnion es ys → xs ≡ ys
unions_same es xs ys u v = same_rising xs ys u.rises v.rises (λ z m. into xs ys z u v m) (λ z m. into ys xs z v u m)
  where
    into : (xs ys : List Entry) (z : Entry) → IsUnion es xs → IsUnion es ys → Among xs z → Among ys z
    into xs ys z u v m =
        let f = u.first z m in
        let w = v.each z (first_in es z f) in
        subst (Among ys) (first_one es w.0 z (v.first w.0 w.1) f w.2) w.1

-- a rising list has one entry of a stamp
rises_one : (xs : List Entry) (y z : Entry) → Rises xs → Among xs y → Among xs z → y.stamp ≡ z.stamp → y ≡ z
rises_one [] y z h m n e = absurd m
rises_one (x ∷ xs) y z h (inl f) (inl g) e = sym f ∙ g
rises_one (x ∷ xs) y z h (inl f) (inr n) e = absurd (lt_not x.stamp z.stamp (all_at (λ w. Lt x.stamp w.stamp) xs z h.0 n) (subst (λ s. Le s x.stamp) (ap (λ (w : Entry). w.stamp) f ∙ e) (le_self x.stamp)))
rises_one (x ∷ xs) y z h (inr m) (inl g) e = absurd (lt_not x.stamp y.stamp (all_at (λ w. Lt x.stamp w.stamp) xs y h.0 m) (subst (λ s. Le s x.stamp) (ap (λ (w : Entry). w.stamp) g ∙ sym e) (le_self x.stamp)))
rises_one (x ∷ xs) y z h (inr m) (inr n) e = rises_one xs y z h.1 m n e

-- some entry of the stamp is there, or none
there_or_not : (xs : List Entry) (s : Stamp) → ((w : Entry) × Among xs w × (w.stamp ≡ s)) ⊎ ((w : Entry) → Among xs w → w.stamp ≡ s → ⊥)
there_or_not [] s = inr (λ w m e. m)
there_or_not (x ∷ xs) s = go (stamp_eq x.stamp s) refl (there_or_not xs s)
  where
    go : (b : Bool) → stamp_eq x.stamp s ≡ b → ((w : Entry) × Among xs w × (w.stamp ≡ s)) ⊎ ((w : Entry) → Among xs w → w.stamp ≡ s → ⊥) → ((w : Entry) × Among (x ∷ xs) w × (w.stamp ≡ s)) ⊎ ((w : Entry) → Among (x ∷ xs) w → w.stamp ≡ s → ⊥)
    go true f r = inl (x, inl refl, same_stamp x.stamp s f)
    go false f (inl r) = inl (r.0, inr r.1, r.2)
    go false f (inr r) = inr (λ w m e. elim m [ inl g ↦ false≢true (sym f ∙ subst (λ t. IsTrue (stamp_eq x.stamp t)) (ap (λ (v : Entry). v.stamp) g ∙ e) (eq_self x.stamp)) | inr n ↦ r w n e ])

-- one more entry
one_more : (es xs : List Entry) (e : Entry) → IsUnion es xs → IsUnion (es ++ e ∷ []) (with_new xs e)
one_more es xs e u =
    record {
      rises = new_rises xs e u.rises;
      first = λ z m. elim (new_from xs e z m) [ inl n ↦ first_more es (e ∷ []) z (u.first z n) | inr g ↦ fresh z m g (there_or_not xs z.stamp) ];
      each = λ z m. elim (among_either es (e ∷ []) z m) [ inl n ↦ (let w = u.each z n in (w.0, new_keeps xs e w.0 w.1, w.2)) | inr n ↦ elim n [ inl g ↦ (let w = new_has xs e in (w.0, w.1, w.2 ∙ ap (λ (v : Entry). v.stamp) g)) | inr o ↦ absurd o ] ];
    }
  where
    fresh : (z : Entry) → Among (with_new xs e) z → e ≡ z → ((w : Entry) × Among xs w × (w.stamp ≡ z.stamp)) ⊎ ((w : Entry) → Among xs w → w.stamp ≡ z.stamp → ⊥) → IsFirst (es ++ e ∷ []) z
    fresh z m g (inl r) = first_more es (e ∷ []) z (subst (IsFirst es) (rises_one (with_new xs e) r.0 z (new_rises xs e u.rises) (new_keeps xs e r.0 r.1) m r.2) (u.first r.0 r.1))
    fresh z m g (inr r) = first_behind es (e ∷ []) z (λ y n f. let w = u.each y n in r w.0 w.1 (w.2 ∙ f)) (inl g)

many_more : (es done xs : List Entry) → IsUnion done xs → IsUnion (done ++ es) (fold with_new xs es)
many_more [] done xs u = subst (λ zs. IsUnion zs xs) (sym (append-nil done)) u
many_more (e ∷ es) done xs u = subst (λ zs. IsUnion zs (fold with_new (with_new xs e) es)) (append_assoc done (e ∷ []) es) (many_more es (done ++ e ∷ []) (with_new xs e) (one_more done xs e u))

union_is : (es : List Entry) → IsUnion es (union es)
unfolding union
union_is es = many_more es [] [] (record { rises = tt; first = λ z m. absurd m; each = λ z m. absurd m })

pub union_is_one : UnionIsOne
union_is_one = (union_is, λ es xs u. unions_same es xs (union es) u (union_is es))

-- ---- in parts, and above a floor

fold_parts : (es fs xs : List Entry) → fold with_new xs (es ++ fs) ≡ fold with_new (fold with_new xs es) fs
fold_parts [] fs xs = refl
fold_parts (e ∷ es) fs xs = fold_parts es fs (with_new xs e)

first_kept : (p : Entry → Bool) (es : List Entry) (z : Entry) → IsFirst es z → IsTrue (p z) → IsFirst (filter p es) z
first_kept p [] z f t = absurd f
first_kept p (e ∷ es) z f t = go (p e) refl f (λ g. first_kept p es z g t)
  where
    go : (b : Bool) → p e ≡ b → IsFirst (e ∷ es) z → (IsFirst es z → IsFirst (filter p es) z) → IsFirst (cond b (e ∷ filter p es) (filter p es)) z
    go true g (inl i) r = inl i
    go true g (inr i) r = inr (i.0, r i.1)
    go false g (inl i) r = absurd (false≢true (sym g ∙ subst (λ w. IsTrue (p w)) (sym i) t))
    go false g (inr i) r = r i.1

first_above : (o : Option Stamp) (es : List Entry) (z : Entry) → IsFirst es z → IsAbove o z → IsFirst (above o es) z
unfolding above
first_above None es z f a = f
first_above (Some s) es z f a = first_kept (λ e. stamp_lt s e.stamp) es z f a

pub above_same : (o : Option Stamp) (y z : Entry) → y.stamp ≡ z.stamp → IsAbove o y → IsAbove o z
above_same None y z e a = tt
above_same (Some s) y z e a = subst (λ t. Lt s t) e a

pub union_goes_on : UnionGoesOn
unfolding union
union_goes_on = (
  λ es fs. fold_parts es fs [],
  λ o es. unions_same (above o es) (above o (union es)) (union (above o es))
      (record {
        rises = rises_above o (union es) (union_rises es);
        first = λ z m. let a = above_from o (union es) z m in first_above o es z ((union_is es).first z a.0) a.1;
        each = λ z m. let a = above_from o es z m in let w = union_has es z a.0 in (w.0, above_in o (union es) w.0 w.1 (above_same o z w.0 (sym w.2) a.1), w.2);
      }) (union_is (above o es)),
)

pub union_of_same : UnionOfSame
union_of_same es fs h i j =
    same_rising (union es) (union fs) (union_rises es) (union_rises fs)
    (λ z m. let n = union_from es z m in let w = union_has fs z (i z n) in subst (Among (union fs)) (h w.0 z (j w.0 (union_from fs w.0 w.1)) n w.2) w.1)
    (λ z m. let n = union_from fs z m in let w = union_has es z (j z n) in subst (Among (union es)) (h w.0 z (union_from es w.0 w.1) (j z n) w.2) w.1)

-- ---- majorities

count_among : (p q : ℕ → Bool) (ks : List ℕ) → ((k : ℕ) → Among ks k → IsTrue (p k) → IsTrue (q k)) → count_by p ks ≤ count_by q ks
count_among p q [] h = omega arith
count_among p q (k ∷ ks) h = go (p k) (q k) refl refl (count_among p q ks (λ j m. h j (inr m)))
  where
    more : (p : ℕ → Bool) (a : Bool) → p k ≡ a → count_by p (k ∷ ks) ≡ cond a 1 0 + count_by p ks
    more p a e = sum_by-cons (λ y. cond (p y) 1 0) k ks ∙ ap (λ t. cond t 1 0 + count_by p ks) e

    go : (a b : Bool) → p k ≡ a → q k ≡ b → count_by p ks ≤ count_by q ks → count_by p (k ∷ ks) ≤ count_by q (k ∷ ks)
    go true true e f l = omega (arith, more p true e, more q true f, l)
    go true false e f l = absurd (false≢true (sym f ∙ h k (inl refl) e))
    go false b e f l = omega (arith, more p false e, more q b f, l)

kept_count : (p : ℕ → Bool) (ks : List ℕ) → length (filter p ks) ≡ count_by p ks
kept_count p ks = length-filter p ks

pub whole_ones_are_many : WholeOnesAreMany
unfolding whole_ones
whole_ones_are_many spec pages h =
    let l = count_among (is_whole pages) (has (filter (is_whole pages) spec)) spec (λ k m t. has_in (filter (is_whole pages) spec) k (kept_in (is_whole pages) spec k m t)) in
    let e = kept_count (is_whole pages) spec in
    omega (arith, h, l, e)

-- ---- merged as they come

-- p is what the union holds of its stamp: no lesser replica has the stamp, and of its own replica it is the first
record IsLeast (done : List (ℕ × Entry)) (p : ℕ × Entry) : Type 0 where
  least : (j : ℕ) (y : Entry) → Among done (j, y) → y.stamp ≡ p.1.stamp → p.0 ≤ j
  first : IsFirst (came_of done p.0) p.1

record IsMerged (done ms : List (ℕ × Entry)) : Type 0 where
  rises : Rises (map (λ p. p.1) ms)
  each_least : (p : ℕ × Entry) → Among ms p → IsLeast done p
  each : (p : ℕ × Entry) → Among done p → (q : ℕ × Entry) × Among ms q × (q.1.stamp ≡ p.1.stamp)

map_in : (ms : List (ℕ × Entry)) (p : ℕ × Entry) → Among ms p → Among (map (λ p. p.1) ms) p.1
map_in [] p m = absurd m
map_in (q ∷ ms) p (inl e) = inl (ap (λ (r : ℕ × Entry). r.1) e)
map_in (q ∷ ms) p (inr m) = inr (map_in ms p m)

map_from : (ms : List (ℕ × Entry)) (z : Entry) → Among (map (λ p. p.1) ms) z → (p : ℕ × Entry) × Among ms p × (p.1 ≡ z)
map_from [] z m = absurd m
map_from (q ∷ ms) z (inl e) = (q, inl refl, e)
map_from (q ∷ ms) z (inr m) = let r = map_from ms z m in (r.0, inr r.1, r.2)

-- what is there after one more
least_from : (ms : List (ℕ × Entry)) (p q : ℕ × Entry) → Rises (map (λ p. p.1) ms) → Among (with_least ms p) q →
    ((p ≡ q) × ((w : ℕ × Entry) → Among ms w → w.1.stamp ≡ p.1.stamp → p.0 < w.0)) ⊎ (Among ms q × (q.1.stamp ≡ p.1.stamp → q.0 ≤ p.0))
unfolding with_least
least_from [] p q h (inl e) = inl (e, λ w m f. absurd m)
least_from [] p q h (inr m) = absurd m
least_from (r ∷ ms) p q h m = go (stamp_lt p.1.stamp r.1.stamp) (stamp_eq p.1.stamp r.1.stamp) (nat_lt p.0 r.0) refl refl refl m (least_from ms p q h.1)
  where
    above_r : (w : ℕ × Entry) → Among ms w → Lt r.1.stamp w.1.stamp
    above_r w n = all_at (λ z. Lt r.1.stamp z.stamp) (map (λ p. p.1) ms) w.1 h.0 (map_in ms w n)

    none_same : (s : Stamp) → Le s r.1.stamp → (w : ℕ × Entry) → Among ms w → w.1.stamp ≡ s → ⊥
    none_same s l w n e = lt_not r.1.stamp w.1.stamp (above_r w n) (subst (λ t. Le t r.1.stamp) (sym e) l)

    go : (a b c : Bool) → stamp_lt p.1.stamp r.1.stamp ≡ a → stamp_eq p.1.stamp r.1.stamp ≡ b → nat_lt p.0 r.0 ≡ c →
        Among (cond a (p ∷ r ∷ ms) (cond b (cond c (p ∷ ms) (r ∷ ms)) (r ∷ with_least ms p))) q →
        (Among (with_least ms p) q → ((p ≡ q) × ((w : ℕ × Entry) → Among ms w → w.1.stamp ≡ p.1.stamp → p.0 < w.0)) ⊎ (Among ms q × (q.1.stamp ≡ p.1.stamp → q.0 ≤ p.0))) →
        ((p ≡ q) × ((w : ℕ × Entry) → Among (r ∷ ms) w → w.1.stamp ≡ p.1.stamp → p.0 < w.0)) ⊎ (Among (r ∷ ms) q × (q.1.stamp ≡ p.1.stamp → q.0 ≤ p.0))
    go true b c e f g (inl i) k = inl (i, λ w n u. absurd (elim n [ inl j ↦ lt_not p.1.stamp r.1.stamp e (subst (λ t. Le t p.1.stamp) (sym (ap (λ (v : ℕ × Entry). v.1.stamp) j ∙ u)) (le_self p.1.stamp)) | inr o ↦ none_same p.1.stamp (lt_is_le p.1.stamp r.1.stamp e) w o u ]))
    go true b c e f g (inr n) k = inr (n, λ u. absurd (elim n [ inl j ↦ lt_not p.1.stamp r.1.stamp e (subst (λ t. Le t p.1.stamp) (sym (ap (λ (v : ℕ × Entry). v.1.stamp) j ∙ u)) (le_self p.1.stamp)) | inr o ↦ none_same p.1.stamp (lt_is_le p.1.stamp r.1.stamp e) q o u ]))
    go false true true e f g (inl i) k = inl (i, λ w n u. elim n [ inl j ↦ subst (λ (v : ℕ × Entry). p.0 < v.0) j (ltb-true p.0 r.0 g) | inr o ↦ absurd (none_same p.1.stamp (eq_le p.1.stamp r.1.stamp f).0 w o u) ])
    go false true true e f g (inr n) k = inr (inr n, λ u. absurd (none_same p.1.stamp (eq_le p.1.stamp r.1.stamp f).0 q n u))
    go false true false e f g (inl i) k = inr (inl i, λ u. subst (λ (v : ℕ × Entry). v.0 ≤ p.0) i (ltb-false p.0 r.0 g))
    go false true false e f g (inr n) k = inr (inr n, λ u. absurd (none_same p.1.stamp (eq_le p.1.stamp r.1.stamp f).0 q n u))
    go false false c e f g (inl i) k = inr (inl i, λ u. absurd (lt_not r.1.stamp p.1.stamp (not_eq p.1.stamp r.1.stamp e f) (subst (λ t. Le t r.1.stamp) (sym (sym u) ∙ refl) (subst (λ (v : ℕ × Entry). Le v.1.stamp r.1.stamp) i (le_self r.1.stamp)))))
    go false false c e f g (inr n) k = elim (k n) [ inl o ↦ inl (o.0, λ w i u. elim i [ inl j ↦ absurd (lt_not r.1.stamp p.1.stamp (not_eq p.1.stamp r.1.stamp e f) (subst (λ t. Le t r.1.stamp) (ap (λ (v : ℕ × Entry). v.1.stamp) j ∙ u) (le_self r.1.stamp))) | inr l ↦ o.1 w l u ]) | inr o ↦ inr (inr o.0, o.1) ]

least_keeps : (ms : List (ℕ × Entry)) (p q : ℕ × Entry) → Among ms q → (w : ℕ × Entry) × Among (with_least ms p) w × (w.1.stamp ≡ q.1.stamp)
unfolding with_least
least_keeps [] p q m = absurd m
least_keeps (r ∷ ms) p q m = go (stamp_lt p.1.stamp r.1.stamp) (stamp_eq p.1.stamp r.1.stamp) (nat_lt p.0 r.0) refl m (least_keeps ms p q)
  where
    go : (a b c : Bool) → stamp_eq p.1.stamp r.1.stamp ≡ b → Among (r ∷ ms) q → (Among ms q → (w : ℕ × Entry) × Among (with_least ms p) w × (w.1.stamp ≡ q.1.stamp)) →
        (w : ℕ × Entry) × Among (cond a (p ∷ r ∷ ms) (cond b (cond c (p ∷ ms) (r ∷ ms)) (r ∷ with_least ms p))) w × (w.1.stamp ≡ q.1.stamp)
    go true b c f n k = (q, inr n, refl)
    go false true true f (inl i) k = (p, inl refl, same_stamp p.1.stamp r.1.stamp f ∙ ap (λ (v : ℕ × Entry). v.1.stamp) i)
    go false true true f (inr n) k = (q, inr n, refl)
    go false true false f n k = (q, n, refl)
    go false false c f (inl i) k = (q, inl i, refl)
    go false false c f (inr n) k = let w = k n in (w.0, inr w.1, w.2)

least_has : (ms : List (ℕ × Entry)) (p : ℕ × Entry) → (w : ℕ × Entry) × Among (with_least ms p) w × (w.1.stamp ≡ p.1.stamp)
unfolding with_least
least_has [] p = (p, inl refl, refl)
least_has (r ∷ ms) p = go (stamp_lt p.1.stamp r.1.stamp) (stamp_eq p.1.stamp r.1.stamp) (nat_lt p.0 r.0) refl (least_has ms p)
  where
    go : (a b c : Bool) → stamp_eq p.1.stamp r.1.stamp ≡ b → ((w : ℕ × Entry) × Among (with_least ms p) w × (w.1.stamp ≡ p.1.stamp)) →
        (w : ℕ × Entry) × Among (cond a (p ∷ r ∷ ms) (cond b (cond c (p ∷ ms) (r ∷ ms)) (r ∷ with_least ms p))) w × (w.1.stamp ≡ p.1.stamp)
    go true b c f k = (p, inl refl, refl)
    go false true true f k = (p, inl refl, refl)
    go false true false f k = (r, inl refl, sym (same_stamp p.1.stamp r.1.stamp f))
    go false false c f k = (k.0, inr k.1, k.2)

least_rises : (ms : List (ℕ × Entry)) (p : ℕ × Entry) → Rises (map (λ p. p.1) ms) → Rises (map (λ p. p.1) (with_least ms p))
unfolding with_least
least_rises [] p h = (tt, tt)
least_rises (r ∷ ms) p h = go (stamp_lt p.1.stamp r.1.stamp) (stamp_eq p.1.stamp r.1.stamp) (nat_lt p.0 r.0) refl refl (least_rises ms p h.1)
  where
    behind : Lt p.1.stamp r.1.stamp → AllByRecursion (λ z. Lt p.1.stamp z.stamp) (map (λ p. p.1) ms)
    behind l = all_from (λ z. Lt p.1.stamp z.stamp) (map (λ p. p.1) ms) (λ z m. lt_trans p.1.stamp r.1.stamp z.stamp l (all_at (λ z. Lt r.1.stamp z.stamp) (map (λ p. p.1) ms) z h.0 m))

    all_behind : Lt r.1.stamp p.1.stamp → (z : Entry) → Among (map (λ p. p.1) (with_least ms p)) z → Lt r.1.stamp z.stamp
    all_behind l z m =
        let f = map_from (with_least ms p) z m in
        subst (λ (v : Entry). Lt r.1.stamp v.stamp) f.2
        (elim (least_from ms p f.0 h.1 f.1) [ inl g ↦ subst (λ (v : ℕ × Entry). Lt r.1.stamp v.1.stamp) g.0 l | inr g ↦ all_at (λ z. Lt r.1.stamp z.stamp) (map (λ p. p.1) ms) f.0.1 h.0 (map_in ms f.0 g.0) ])

    go : (a b c : Bool) → stamp_lt p.1.stamp r.1.stamp ≡ a → stamp_eq p.1.stamp r.1.stamp ≡ b → Rises (map (λ p. p.1) (with_least ms p)) →
        Rises (map (λ p. p.1) (cond a (p ∷ r ∷ ms) (cond b (cond c (p ∷ ms) (r ∷ ms)) (r ∷ with_least ms p))))
    go true b c e f k = ((e, behind e), h)
    go false true true e f k = (subst (λ t. AllByRecursion (λ z. Lt t z.stamp) (map (λ p. p.1) ms)) (sym (same_stamp p.1.stamp r.1.stamp f)) h.0, h.1)
    go false true false e f k = h
    go false false c e f k = (all_from (λ z. Lt r.1.stamp z.stamp) (map (λ p. p.1) (with_least ms p)) (all_behind (not_eq p.1.stamp r.1.stamp e f)), k)

-- ---- what came of each

came_end : (done : List (ℕ × Entry)) (p : ℕ × Entry) (k : ℕ) (b : Bool) → (p.0 == k) ≡ b → came_of (done ++ p ∷ []) k ≡ came_of done k ++ cond b (p.1 ∷ []) []
unfolding came_of
came_end [] p k true e = ap (λ c. map (λ (p : ℕ × Entry). p.1) (cond c (p ∷ []) [])) e
came_end [] p k false e = ap (λ c. map (λ (p : ℕ × Entry). p.1) (cond c (p ∷ []) [])) e
came_end (q ∷ done) p k b e = go (q.0 == k) (came_end done p k b e)
  where
    go : (c : Bool) → map (λ (p : ℕ × Entry). p.1) (filter (λ p. p.0 == k) (done ++ p ∷ [])) ≡ map (λ (p : ℕ × Entry). p.1) (filter (λ p. p.0 == k) done) ++ cond b (p.1 ∷ []) [] →
        map (λ (p : ℕ × Entry). p.1) (cond c (q ∷ filter (λ p. p.0 == k) (done ++ p ∷ [])) (filter (λ p. p.0 == k) (done ++ p ∷ []))) ≡ map (λ (p : ℕ × Entry). p.1) (cond c (q ∷ filter (λ p. p.0 == k) done) (filter (λ p. p.0 == k) done)) ++ cond b (p.1 ∷ []) []
    go true r = ap (λ zs. q.1 ∷ zs) r
    go false r = r

came_more : (done : List (ℕ × Entry)) (p : ℕ × Entry) (k : ℕ) (z : Entry) → IsFirst (came_of done k) z → IsFirst (came_of (done ++ p ∷ []) k) z
came_more done p k z f = subst (λ zs. IsFirst zs z) (sym (came_end done p k (p.0 == k) refl)) (first_more (came_of done k) (cond (p.0 == k) (p.1 ∷ []) []) z f)

came_in : (done : List (ℕ × Entry)) (p : ℕ × Entry) → Among done p → Among (came_of done p.0) p.1
unfolding came_of
came_in done p m = map_in (filter (λ q. q.0 == p.0) done) p (kept_in (λ q. q.0 == p.0) done p m (eq-eqb p.0 p.0 refl))

came_from : (done : List (ℕ × Entry)) (k : ℕ) (y : Entry) → Among (came_of done k) y → Among done (k, y)
unfolding came_of
came_from done k y m =
    let f = map_from (filter (λ q. q.0 == k) done) y m in
    let g = kept_from (λ q. q.0 == k) done f.0 f.1 in
    let e : f.0.0 ≡ k = eqb-true f.0.0 k g.1 in
    let pair : ◌≡◌ {A = ℕ × Entry} (f.0.0, f.0.1) (k, y) = λ i. (e i, f.2 i) in
    subst (Among done) pair g.0

merge_one : (done ms : List (ℕ × Entry)) (p : ℕ × Entry) → IsMerged done ms → IsMerged (done ++ p ∷ []) (with_least ms p)
merge_one done ms p h =
    record {
      rises = least_rises ms p h.rises;
      each_least = λ q m. elim (least_from ms p q h.rises m) [ inl g ↦ subst (IsLeast (done ++ p ∷ [])) g.0 (newest g.1) | inr g ↦ older q (h.each_least q g.0) g.1 ];
      each = λ q m. elim (among_either done (p ∷ []) q m) [ inl n ↦ (let r = h.each q n in let w = least_keeps ms p r.0 r.1 in (w.0, w.1, w.2 ∙ r.2)) | inr n ↦ elim n [ inl e ↦ (let w = least_has ms p in (w.0, w.1, w.2 ∙ ap (λ (v : ℕ × Entry). v.1.stamp) e)) | inr o ↦ absurd o ] ];
    }
  where
    older : (q : ℕ × Entry) → IsLeast done q → (q.1.stamp ≡ p.1.stamp → q.0 ≤ p.0) → IsLeast (done ++ p ∷ []) q
    older q l g =
        record {
          least = λ j y m e. elim (among_either done (p ∷ []) (j, y) m) [ inl n ↦ l.least j y n e | inr n ↦ elim n [ inl f ↦ subst (λ i. q.0 ≤ i) (ap (λ (v : ℕ × Entry). v.0) f) (g (sym (ap (λ (v : ℕ × Entry). v.1.stamp) f ∙ e))) | inr o ↦ absurd o ] ];
          first = came_more done p q.0 q.1 l.first;
        }

    -- of the stamp of p lesser replicas, and its own, have sent nothing
    lower : ((w : ℕ × Entry) → Among ms w → w.1.stamp ≡ p.1.stamp → p.0 < w.0) → (j : ℕ) (y : Entry) → Among done (j, y) → y.stamp ≡ p.1.stamp → p.0 < j
    lower g j y m e =
        let w = h.each (j, y) m in
        let l = g w.0 w.1 (w.2 ∙ e) in
        let k = (h.each_least w.0 w.1).least j y m (sym w.2) in omega arith

    newest : ((w : ℕ × Entry) → Among ms w → w.1.stamp ≡ p.1.stamp → p.0 < w.0) → IsLeast (done ++ p ∷ []) p
    newest g =
        record {
          least = λ j y m e. elim (among_either done (p ∷ []) (j, y) m) [ inl n ↦ (let l = lower g j y n e in omega arith) | inr n ↦ elim n [ inl f ↦ (let k : p.0 ≡ j = ap (λ (v : ℕ × Entry). v.0) f in omega (arith, k)) | inr o ↦ absurd o ] ];
          first = subst (λ zs. IsFirst zs p.1) (sym (came_end done p p.0 true (eq-eqb p.0 p.0 refl)))
              (first_behind (came_of done p.0) (p.1 ∷ []) p.1 (λ y m e. let l = lower g p.0 y (came_from done p.0 y m) e in omega (arith, l)) (inl refl));
        }

merge_all : (ps done ms : List (ℕ × Entry)) → IsMerged done ms → IsMerged (done ++ ps) (fold with_least ms ps)
merge_all [] done ms h = subst (λ zs. IsMerged zs ms) (sym (append-nil done)) h
merge_all (p ∷ ps) done ms h = subst (λ zs. IsMerged zs (fold with_least (with_least ms p) ps)) (append_assoc done (p ∷ []) ps) (merge_all ps (done ++ p ∷ []) (with_least ms p) (merge_one done ms p h))

merged_is : (ps : List (ℕ × Entry)) → IsMerged ps (merged ps)
unfolding merged
merged_is ps = merge_all ps [] [] (record { rises = tt; each_least = λ p m. absurd m; each = λ p m. absurd m })

flat_first : (ps : List (ℕ × Entry)) (ks : List ℕ) (k : ℕ) (z : Entry) → Ascends ks → Among ks k → ((j : ℕ) (y : Entry) → Among (came_of ps j) y → y.stamp ≡ z.stamp → k ≤ j) → IsFirst (came_of ps k) z → IsFirst (flat_map (came_of ps) ks) z
flat_first ps [] k z a m h f = absurd m
flat_first ps (j ∷ ks) k z a (inl e) h f = first_more (came_of ps j) (flat_map (came_of ps) ks) z (subst (λ i. IsFirst (came_of ps i) z) (sym e) f)
flat_first ps (j ∷ ks) k z a (inr m) h f =
    first_behind (came_of ps j) (flat_map (came_of ps) ks) z (λ y n e. let l = h j y n e in let i = all_at (λ i. j < i) ks k a.0 m in omega arith) (flat_first ps ks k z a.1 m h f)

pub merged_as_they_come : MergedAsTheyCome
merged_as_they_come ks ps a inside =
    let h = merged_is ps in
    let es = flat_map (came_of ps) ks in
    unions_same es (map (λ p. p.1) (merged ps)) (union es)
    (record {
      rises = h.rises;
      first = λ z m.
          let f = map_from (merged ps) z m in
          let l = h.each_least f.0 f.1 in
          let n = came_from ps f.0.0 f.0.1 (first_in (came_of ps f.0.0) f.0.1 l.first) in
          subst (IsFirst es) f.2 (flat_first ps ks f.0.0 f.0.1 a (inside (f.0.0, f.0.1) n) (λ j y i e. l.least j y (came_from ps j y i) e) l.first);
      each = λ z m.
          let f = flat_from (came_of ps) ks z m in
          let q = h.each (f.0, z) (came_from ps f.0 z f.2) in
          (q.0.1, map_in (merged ps) q.0 q.1, q.2);
    }) (union_is es)
