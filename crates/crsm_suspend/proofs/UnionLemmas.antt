-- Entries in a map by their stamps.
use Rattle.std.proofs.Common.{◌≡◌, ◌∙◌, ℕ, Bool, true, false, cond, refl, sym, ap, subst, List, [], ◌∷◌, map, Some, inl, inr, arith}
use Rattle.std.specs.Prelude.{◌==◌, ◌&&◌, ◌||◌, nat_lt, IsTrue, is_some}
use Rattle.std.specs.List.{AllByRecursion}
use Rattle.std.specs.Ordering.{is_eq, is_lt, nat_cmp, ordering_then, match_ordering}
use Rattle.std.specs.declared.cmp.Ordering.{Ordering}
use Rattle.std.specs.declared.cmp.Ordering.TheVariants.{Less, Equal, Greater}
use Rattle.std.specs.BTreeMap.{is_at, insert_entry}
use Rattle.std.specs.Map.{lookup}
use Rattle.std.proofs.lemmas.Bool.{false≢true}
use Rattle.std.proofs.lemmas.Bool.Decides.{nat_tests}
use Rattle.crsm_spec.specs.Types.{Stamp, Entry}
use Rattle.crsm_base.specs.Order.{stamp_lt, stamp_eq}
use Rattle.crsm_base.specs.contracts.stamp.StampOrd.TheImpl as order
use Rattle.crsm_spec.specs.Lists.{Among}
use Rattle.crsm_spec.specs.Collect.{with_new}
use Rattle.crsm_fact_log.specs.Rising.{Rises}
use Rattle.crsm_fact_log.proofs.Sorted.{Lt, Le, lt_not, lt_is_le, le_self, eq_le, eq_self, le_both}
use Rattle.crsm_fact_log.proofs.Lists.{all_at}
use Rattle.crsm_fact_log.proofs.Union.{new_rises}
use Rattle.crsm_suspend.specs.Union.{IsByStamp}

-- ---- the order of stamps

abbrev pub order_of : Stamp → Stamp → Ordering
order_of s r = (order.cmp-value).it s r

eq-nat : (a b : ℕ) → is_eq (nat_cmp a b) ≡ (a == b)
eq-nat a b = grind (arith, nat_tests)

lt-nat : (a b : ℕ) → is_lt (nat_cmp a b) ≡ nat_lt a b
lt-nat a b = grind (arith, nat_tests)

eq-then : (o p : Ordering) → is_eq (ordering_then o p) ≡ (is_eq o && is_eq p)
eq-then Less p = refl
eq-then Equal p = refl
eq-then Greater p = refl

lt-then : (o p : Ordering) → is_lt (ordering_then o p) ≡ (is_lt o || (is_eq o && is_lt p))
lt-then Less p = refl
lt-then Equal p = refl
lt-then Greater p = refl

eq_is : (s r : Stamp) → is_eq (order_of s r) ≡ stamp_eq s r
unfolding stamp_eq
eq_is s r =
    eq-then (nat_cmp s.time r.time) (nat_cmp s.origin r.origin)
    ∙ rw (eq-nat s.time r.time, eq-nat s.origin r.origin) refl

lt_is : (s r : Stamp) → is_lt (order_of s r) ≡ stamp_lt s r
unfolding stamp_lt
lt_is s r =
    lt-then (nat_cmp s.time r.time) (nat_cmp s.origin r.origin)
    ∙ rw (lt-nat s.time r.time, eq-nat s.time r.time, lt-nat s.origin r.origin) refl

-- ---- an entry whose stamp is there

found_in : (es : List (Stamp × Entry)) (s : Stamp) → AllByRecursion (λ p. p.0 ≡ p.1.stamp) es → is_some (lookup (is_at (order_of s)) es) ≡ true →
    (w : Entry) × Among (map (λ p. p.1) es) w × (w.stamp ≡ s)
found_in [] s at f = absurd (cc)
found_in (q ∷ es) s at f = go (is_eq (order_of s q.0)) refl f (found_in es s at.1)
  where
    go : (b : Bool) → is_eq (order_of s q.0) ≡ b → is_some (cond b (Some q.1) (lookup (is_at (order_of s)) es)) ≡ true →
        (is_some (lookup (is_at (order_of s)) es) ≡ true → (w : Entry) × Among (map (λ p. p.1) es) w × (w.stamp ≡ s)) → (w : Entry) × Among (map (λ p. p.1) (q ∷ es)) w × (w.stamp ≡ s)
    go true e g r =
        let same = eq_le s q.0 (sym (eq_is s q.0) ∙ e) in
        (q.1, inl refl, sym at.0 ∙ le_both q.0 s same.1 same.0)
    go false e g r = let w = r g in (w.0, inr w.1, w.2)

-- it changes nothing
same_new : (xs : List Entry) (e w : Entry) → Rises xs → Among xs w → w.stamp ≡ e.stamp → with_new xs e ≡ xs
unfolding with_new
same_new [] e w h m i = absurd m
same_new (f ∷ xs) e w h m i = go (stamp_lt e.stamp f.stamp) (stamp_eq e.stamp f.stamp) refl refl m (λ n. same_new xs e w h.1 n i)
  where
    not_low : Lt e.stamp f.stamp → Among (f ∷ xs) w → ⊥
    not_low l (inl g) = lt_not e.stamp f.stamp l (subst (λ s. Le f.stamp s) (ap (λ (v : Entry). v.stamp) g ∙ i) (le_self f.stamp))
    not_low l (inr n) = lt_not f.stamp e.stamp (subst (λ s. Lt f.stamp s) i (all_at (λ z. Lt f.stamp z.stamp) xs w h.0 n)) (lt_is_le e.stamp f.stamp l)

    go : (b c : Bool) → stamp_lt e.stamp f.stamp ≡ b → stamp_eq e.stamp f.stamp ≡ c → Among (f ∷ xs) w → (Among xs w → with_new xs e ≡ xs) →
        cond b (e ∷ f ∷ xs) (cond c (f ∷ xs) (f ∷ with_new xs e)) ≡ f ∷ xs
    go true c l j n r = absurd (not_low l n)
    go false true l j n r = refl
    go false false l j (inl g) r = absurd (false≢true (sym j ∙ subst (λ s. IsTrue (stamp_eq e.stamp s)) (sym (ap (λ (v : Entry). v.stamp) g ∙ i)) (eq_self e.stamp)))
    go false false l j (inr n) r = ap (λ zs. f ∷ zs) (r n)

pub known_stamp : (es : List (Stamp × Entry)) (e : Entry) → IsByStamp es → is_some (lookup (is_at (order_of e.stamp)) es) ≡ true → with_new (map (λ p. p.1) es) e ≡ map (λ p. p.1) es
known_stamp es e by f = let w = found_in es e.stamp by.at f in same_new (map (λ p. p.1) es) e w.0 by.rises w.1 w.2

-- ---- an entry of a new stamp

pub new_stamp : (es : List (Stamp × Entry)) (s : Stamp) (e : Entry) → s ≡ e.stamp → AllByRecursion (λ p. p.0 ≡ p.1.stamp) es → is_some (lookup (is_at (order_of s)) es) ≡ false →
    map (λ p. p.1) (insert_entry order_of es s e) ≡ with_new (map (λ p. p.1) es) e
unfolding with_new
new_stamp [] s e i at f = refl
new_stamp (q ∷ es) s e i at f = go (order_of s q.0) refl f (new_stamp es s e i at.1)
  where
    less : (o : Ordering) → order_of s q.0 ≡ o → stamp_lt e.stamp q.1.stamp ≡ is_lt o
    less o g = ap (λ t. stamp_lt t q.1.stamp) (sym i) ∙ ap (λ t. stamp_lt s t) (sym at.0) ∙ sym (lt_is s q.0) ∙ ap is_lt g

    same : (o : Ordering) → order_of s q.0 ≡ o → stamp_eq e.stamp q.1.stamp ≡ is_eq o
    same o g = ap (λ t. stamp_eq t q.1.stamp) (sym i) ∙ ap (λ t. stamp_eq s t) (sym at.0) ∙ sym (eq_is s q.0) ∙ ap is_eq g

    go : (o : Ordering) → order_of s q.0 ≡ o → is_some (cond (is_eq o) (Some q.1) (lookup (is_at (order_of s)) es)) ≡ false →
        (is_some (lookup (is_at (order_of s)) es) ≡ false → map (λ p. p.1) (insert_entry order_of es s e) ≡ with_new (map (λ p. p.1) es) e) →
        map (λ p. p.1) (match_ordering o ((s, e) ∷ q ∷ es) ((q.0, e) ∷ es) (q ∷ insert_entry order_of es s e))
        ≡ cond (stamp_lt e.stamp q.1.stamp) (e ∷ q.1 ∷ map (λ p. p.1) es) (cond (stamp_eq e.stamp q.1.stamp) (q.1 ∷ map (λ p. p.1) es) (q.1 ∷ with_new (map (λ p. p.1) es) e))
    go Less g n r = rw (less Less g) refl
    go Equal g n r = absurd (cc)
    go Greater g n r = rw (less Greater g, same Greater g) (ap (λ zs. q.1 ∷ zs) (r n))

at_stays : (es : List (Stamp × Entry)) (s : Stamp) (e : Entry) → s ≡ e.stamp → AllByRecursion (λ p. p.0 ≡ p.1.stamp) es → is_some (lookup (is_at (order_of s)) es) ≡ false →
    AllByRecursion (λ p. p.0 ≡ p.1.stamp) (insert_entry order_of es s e)
at_stays [] s e i at f = (i, tt)
at_stays (q ∷ es) s e i at f = go (order_of s q.0) f (at_stays es s e i at.1)
  where
    go : (o : Ordering) → is_some (cond (is_eq o) (Some q.1) (lookup (is_at (order_of s)) es)) ≡ false →
        (is_some (lookup (is_at (order_of s)) es) ≡ false → AllByRecursion (λ p. p.0 ≡ p.1.stamp) (insert_entry order_of es s e)) →
        AllByRecursion (λ p. p.0 ≡ p.1.stamp) (match_ordering o ((s, e) ∷ q ∷ es) ((q.0, e) ∷ es) (q ∷ insert_entry order_of es s e))
    go Less n r = (i, at)
    go Equal n r = absurd (cc)
    go Greater n r = (at.0, r n)

pub stays_by_stamp : (es : List (Stamp × Entry)) (s : Stamp) (e : Entry) → s ≡ e.stamp → IsByStamp es → is_some (lookup (is_at (order_of s)) es) ≡ false →
    IsByStamp (insert_entry order_of es s e)
stays_by_stamp es s e i by f = record {
  at = at_stays es s e i by.at f;
  rises = subst Rises (sym (new_stamp es s e i by.at f)) (new_rises (map (λ p. p.1) es) e by.rises);
}
