-- The elements of a list that pass a test: where they stand, and what stands before them.
use Rattle.std.proofs.Common.{◌≡◌, ℕ, zero, suc, ◌<◌, Bool, true, false, cond, List, [], ◌∷◌, length, take, map, refl, sym, ◌∙◌, ap, subst, arith}
use Rattle.std.specs.Prelude.{filter, Some, slice_get}
use Rattle.std.specs.List.{AllByRecursion}
use Rattle.std.proofs.lemmas.Option.{none-some, same_Some}

pub all_pass : {A : Type 0} (p : A → Bool) (xs : List A) → AllByRecursion (λ x. p x ≡ true) xs → filter p xs ≡ xs
all_pass p [] h = refl
all_pass p (x ∷ xs) h = ap (λ b. cond b (x ∷ filter p xs) (filter p xs)) h.0 ∙ ap (λ l. x ∷ l) (all_pass p xs h.1)

pub none_passes : {A : Type 0} (p : A → Bool) (xs : List A) → AllByRecursion (λ x. p x ≡ false) xs → filter p xs ≡ []
none_passes p [] h = refl
none_passes p (x ∷ xs) h = ap (λ b. cond b (x ∷ filter p xs) (filter p xs)) h.0 ∙ none_passes p xs h.1

pub filter-map : {A B : Type 0} (f : A → B) (p : B → Bool) (xs : List A) → filter p (map f xs) ≡ map f (filter (λ x. p (f x)) xs)
filter-map f p [] = refl
filter-map f p (x ∷ xs) = go (p (f x)) (filter-map f p xs)
  where
    go : (b : Bool) → filter p (map f xs) ≡ map f (filter (λ y. p (f y)) xs) →
        cond b (f x ∷ filter p (map f xs)) (filter p (map f xs)) ≡ map f (cond b (x ∷ filter (λ y. p (f y)) xs) (filter (λ y. p (f y)) xs))
    go true e = ap (λ l. f x ∷ l) e
    go false e = e

-- an element that passes, behind as many as pass before it
pub record Passes {A : Type 0} (p : A → Bool) (xs : List A) (i : ℕ) (x : A) : Type 0 where
  pub there : slice_get (filter p xs) (length (filter p (take i xs))) ≡ Some x
  pub before : take (length (filter p (take i xs))) (filter p xs) ≡ filter p (take i xs)

-- behind one element more, which passes or not
passes_behind : {A : Type 0} (p : A → Bool) (y : A) (ys : List A) (i : ℕ) (x : A) (b : Bool) → p y ≡ b → Passes p ys i x → Passes p (y ∷ ys) (suc i) x
passes_behind p y ys i x true e r = record {
  there = ap (λ b. slice_get (cond b (y ∷ filter p ys) (filter p ys)) (length (cond b (y ∷ filter p (take i ys)) (filter p (take i ys))))) e ∙ r.there;
  before = ap (λ b. take (length (cond b (y ∷ filter p (take i ys)) (filter p (take i ys)))) (cond b (y ∷ filter p ys) (filter p ys))) e
      ∙ ap (λ l. y ∷ l) r.before ∙ sym (ap (λ b. cond b (y ∷ filter p (take i ys)) (filter p (take i ys))) e);
}
passes_behind p y ys i x false e r = record {
  there = ap (λ b. slice_get (cond b (y ∷ filter p ys) (filter p ys)) (length (cond b (y ∷ filter p (take i ys)) (filter p (take i ys))))) e ∙ r.there;
  before = ap (λ b. take (length (cond b (y ∷ filter p (take i ys)) (filter p (take i ys)))) (cond b (y ∷ filter p ys) (filter p ys))) e
      ∙ r.before ∙ sym (ap (λ b. cond b (y ∷ filter p (take i ys)) (filter p (take i ys))) e);
}

pub passes_at : {A : Type 0} (p : A → Bool) (xs : List A) (i : ℕ) (x : A) → slice_get xs i ≡ Some x → p x ≡ true → Passes p xs i x
passes_at p [] i x at h = absurd (none-some x at)
passes_at p (y ∷ ys) zero x at h =
    let passes : p y ≡ true = subst (λ z. p z ≡ true) (sym (same_Some y x at)) h in
    record { there = ap (λ b. slice_get (cond b (y ∷ filter p ys) (filter p ys)) 0) passes ∙ at; before = refl }
passes_at p (y ∷ ys) (suc i) x at h = passes_behind p y ys i x (p y) refl (passes_at p ys i x at h)

-- ---- where the elements that pass stand

one_in : {A : Type 0} (p : A → Bool) (xs : List A) (y : A) (rest : List A) → filter p xs ≡ y ∷ rest → (i : ℕ) × (slice_get xs i ≡ Some y)
one_in p [] y rest e = absurd (cc)
one_in p (x ∷ xs) y rest e = go (p x) e (one_in p xs y rest)
  where
    go : (b : Bool) → cond b (x ∷ filter p xs) (filter p xs) ≡ y ∷ rest → (filter p xs ≡ y ∷ rest → (i : ℕ) × (slice_get xs i ≡ Some y)) → (i : ℕ) × (slice_get (x ∷ xs) i ≡ Some y)
    go true f more = (0, ap Some (cc f))
    go false f more = let t = more f in (suc t.0, t.1)

-- the second stands behind the first
pub two_in : {A : Type 0} (p : A → Bool) (xs : List A) (y z : A) (rest : List A) → filter p xs ≡ y ∷ z ∷ rest → (i j : ℕ) × (i < j) × (slice_get xs i ≡ Some y) × (slice_get xs j ≡ Some z)
two_in p [] y z rest e = absurd (cc)
two_in p (x ∷ xs) y z rest e = go (p x) e (two_in p xs y z rest)
  where
    go : (b : Bool) → cond b (x ∷ filter p xs) (filter p xs) ≡ y ∷ z ∷ rest → (filter p xs ≡ y ∷ z ∷ rest → (i j : ℕ) × (i < j) × (slice_get xs i ≡ Some y) × (slice_get xs j ≡ Some z)) →
        (i j : ℕ) × (i < j) × (slice_get (x ∷ xs) i ≡ Some y) × (slice_get (x ∷ xs) j ≡ Some z)
    go true f more = let t = one_in p xs z rest (cc f) in (0, suc t.0, omega arith, ap Some (cc f), t.1)
    go false f more = let t = more f in (suc t.0, suc t.1, (let lt = t.2 in omega (arith, lt)), t.3, t.4)
