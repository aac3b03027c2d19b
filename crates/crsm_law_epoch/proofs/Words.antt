-- Lemmas on lists.
use Rattle.std.proofs.Common.{◌≡◌, ℕ, zero, suc, ◌+◌, ◌<◌, ◌≤◌, List, [], ◌∷◌, ◌++◌, length, refl, sym, ◌∙◌, ap, subst, inl, inr, Bool, true, false, cond, arith, map, take, eqb}
use Rattle.std.specs.Prelude.{◌⊎◌, Some, slice_get, slice_set, filter, ◌==◌, IsTrue, count_by}
use Rattle.std.specs.List.{list_any, list_all, range_with_len}
use Rattle.std.proofs.lemmas.Bool.{and_parts, or_cases, ne_eqb, eq-eqb, cases_eq}
use Rattle.std.proofs.lemmas.Option.{none-some, same_Some}
use Rattle.std.proofs.lemmas.List.Sums.{sum_by-cons}
use Rattle.crsm_spec.specs.Lists.{Among}
use Rattle.crsm_law_epoch.specs.Numbers.{Distinct}
use Rattle.crsm_fact_log.proofs.Lists.{kept_from}

pub among_map : {A B : Type 0} (f : A → B) (xs : List A) (a : A) → Among xs a → Among (map f xs) (f a)
among_map f [] a h = absurd h
among_map f (x ∷ xs) a (inl e) = inl (ap f e)
among_map f (x ∷ xs) a (inr h) = inr (among_map f xs a h)

pub among_unmap : {A B : Type 0} (f : A → B) (xs : List A) (b : B) → Among (map f xs) b → (a : A) × Among xs a × (f a ≡ b)
among_unmap f [] b h = absurd h
among_unmap f (x ∷ xs) b (inl e) = (x, inl refl, e)
among_unmap f (x ∷ xs) b (inr h) = let t = among_unmap f xs b h in (t.0, inr t.1, t.2)

pub get_end : {A : Type 0} (xs : List A) (a : A) → slice_get (xs ++ a ∷ []) (length xs) ≡ Some a
get_end [] a = refl
get_end (x ∷ xs) a = get_end xs a

pub get_either : {A : Type 0} (xs : List A) (b : A) (i : ℕ) (a : A) → slice_get (xs ++ b ∷ []) i ≡ Some a → (slice_get xs i ≡ Some a) ⊎ ((i ≡ length xs) × (b ≡ a))
get_either [] b zero a h = inr (refl, same_Some b a h)
get_either [] b (suc i) a h = absurd (none-some a h)
get_either (x ∷ xs) b zero a h = inl h
get_either (x ∷ xs) b (suc i) a h = elim (get_either xs b i a h) [ inl k ↦ inl k | inr k ↦ inr (ap suc k.0, k.1) ]

pub get_among : {A : Type 0} (xs : List A) (i : ℕ) (a : A) → slice_get xs i ≡ Some a → Among xs a
get_among [] i a h = absurd (none-some a h)
get_among (x ∷ xs) zero a h = inl (same_Some x a h)
get_among (x ∷ xs) (suc i) a h = inr (get_among xs i a h)

-- ---- counts

pub count_same : (k : ℕ) (ks : List ℕ) → count_by (λ j. j == k) (k ∷ ks) ≡ count_by (λ j. j == k) ks + 1
count_same k ks =
    let e = sum_by-cons (λ j. cond (eqb j k) 1 0) k ks in
    let t = eq-eqb k k refl in
    e ∙ ap (λ b. cond b 1 0 + count_by (λ j. j == k) ks) t ∙ omega arith

pub count_other : (j k : ℕ) (ks : List ℕ) → (j ≡ k → ⊥) → count_by (λ i. i == k) (j ∷ ks) ≡ count_by (λ i. i == k) ks
count_other j k ks ne =
    let e = sum_by-cons (λ i. cond (eqb i k) 1 0) j ks in
    let t = ne_eqb j k ne in
    e ∙ ap (λ b. cond b 1 0 + count_by (λ i. i == k) ks) t ∙ omega arith

-- ---- tests over lists

pub any_is : {A : Type 0} (P : A → Bool) (xs : List A) → IsTrue (list_any P xs) → (a : A) × Among xs a × IsTrue (P a)
any_is P [] h = absurd (cc)
any_is P (x ∷ xs) h = elim (or_cases (P x) (list_any P xs) h) [ inl e ↦ (x, inl refl, e) | inr e ↦ (let t = any_is P xs e in (t.0, inr t.1, t.2)) ]

-- ---- filters

filter_in : {A : Type 0} (x a : A) (xs : List A) (b : Bool) → Among (cond b (x ∷ xs) xs) a → ((b ≡ true) × (x ≡ a)) ⊎ Among xs a
filter_in x a xs true (inl e) = inl (refl, e)
filter_in x a xs true (inr h) = inr h
filter_in x a xs false h = inr h

filter_keep : {A : Type 0} (x a : A) (xs : List A) (b : Bool) → Among xs a → Among (cond b (x ∷ xs) xs) a
filter_keep x a xs true h = inr h
filter_keep x a xs false h = h

pub among_filter : {A : Type 0} (P : A → Bool) (xs : List A) (a : A) → IsTrue (P a) → Among xs a → Among (filter P xs) a
among_filter P [] a p h = absurd h
among_filter P (x ∷ xs) a p (inl e) = subst (λ b. Among (cond b (x ∷ filter P xs) (filter P xs)) a) (sym (subst (λ y. IsTrue (P y)) (sym e) p)) (inl e)
among_filter P (x ∷ xs) a p (inr h) = filter_keep x a (filter P xs) (P x) (among_filter P xs a p h)

-- ---- numbers

pub range_is : (a n k : ℕ) → Among (range_with_len a n) k → (a ≤ k) × (k < a + n)
range_is a zero k h = absurd h
range_is a (suc n) k (inl e) = (omega arith, omega arith)
range_is a (suc n) k (inr h) = let t = range_is (a + 1) n k h in (omega arith, omega arith)

pub is_range : (a n k : ℕ) → a ≤ k → k < a + n → Among (range_with_len a n) k
is_range a zero k p q = absurd (omega (arith, p, q))
is_range a (suc n) k p q = elim (cases_eq a k) [ inl e ↦ inl e | inr ne ↦ inr (is_range (a + 1) n k (omega arith) (omega arith)) ]

pub distinct_range : (a n : ℕ) → Distinct (range_with_len a n)
distinct_range a zero = tt
distinct_range a (suc n) = (λ h. let t = range_is (a + 1) n a h in absurd (omega arith), distinct_range (a + 1) n)

distinct_when : (k : ℕ) (ks : List ℕ) (b : Bool) → (Among ks k → ⊥) → Distinct ks → Distinct (cond b (k ∷ ks) ks)
distinct_when k ks true p q = (p, q)
distinct_when k ks false p q = q

pub distinct_filter : (P : ℕ → Bool) (ks : List ℕ) → Distinct ks → Distinct (filter P ks)
distinct_filter P [] h = tt
distinct_filter P (k ∷ ks) h = distinct_when k (filter P ks) (P k) (λ i. h.0 (kept_from P ks k i).0) (distinct_filter P ks h.1)

-- ---- a place that changes

pub set_same : {A : Type 0} (xs : List A) (k : ℕ) (a b : A) → slice_get xs k ≡ Some a → slice_get (slice_set xs k b) k ≡ Some b
set_same [] k a b h = absurd (none-some a h)
set_same (x ∷ xs) zero a b h = refl
set_same (x ∷ xs) (suc k) a b h = set_same xs k a b h

pub set_other : {A : Type 0} (xs : List A) (k j : ℕ) (b : A) → (j ≡ k → ⊥) → slice_get (slice_set xs k b) j ≡ slice_get xs j
set_other [] k j b ne = refl
set_other (x ∷ xs) zero zero b ne = absurd (ne refl)
set_other (x ∷ xs) zero (suc j) b ne = refl
set_other (x ∷ xs) (suc k) zero b ne = refl
set_other (x ∷ xs) (suc k) (suc j) b ne = set_other xs k j b (λ e. ne (ap suc e))
