-- Facts of each element of a list, index by index.
use Rattle.std.proofs.Common.{◌≡◌, ℕ, zero, suc, ◌+◌, ◌<◌, ◌≤◌, List, [], ◌∷◌, ◌++◌, length, get_or, take, map, refl, sym, ◌∙◌, ap, subst, inl, inr, arith}
use Rattle.std.specs.List.{AllByRecursion}
use Rattle.std.specs.Prelude.{Some, slice_get}
use Rattle.std.proofs.lemmas.Bool.{cases_lt}
use Rattle.std.proofs.lemmas.Option.{none-some, same_Some, slice_get_read, slice_get_cases}

-- the element at a place
pub there : {A : Type 0} (xs : List A) (i : ℕ) (x : A) → i < length xs → x ≡ get_or xs i x → slice_get xs i ≡ Some x
there xs i x lt is = slice_get_read xs (length xs) i x refl lt is

-- one place more
pub below_more : {A : Type 0} (xs : List A) (P : ℕ → A → Type 0) (i : ℕ) (x : A) → i < length xs → x ≡ get_or xs i x → P i x
    → ((q : ℕ) (y : A) → q < i → slice_get xs q ≡ Some y → P q y) → (q : ℕ) (y : A) → q < i + 1 → slice_get xs q ≡ Some y → P q y
below_more xs P i x lt is p below q y within h = elim (cases_lt q i) [
  | inl less ↦ below q y less h
  | inr ge ↦ (let e : q ≡ i = omega (arith, within, ge) in
      let same : x ≡ y = same_Some x y (sym (there xs i x lt is) ∙ subst (λ k. slice_get xs k ≡ Some y) e h) in
      subst (λ k. P k y) (sym e) (subst (P i) same p))
]

pub inside : {A : Type 0} (xs : List A) (q : ℕ) (y : A) → slice_get xs q ≡ Some y → q < length xs
inside xs q y h = elim (slice_get_cases xs q).1 [ inl t ↦ t.1 | inr t ↦ absurd (none-some y (sym t.1 ∙ h)) ]

-- all places
pub all_below : {A : Type 0} (xs : List A) (P : ℕ → A → Type 0) (i : ℕ) → length xs ≤ i → ((q : ℕ) (y : A) → q < i → slice_get xs q ≡ Some y → P q y)
    → (q : ℕ) (y : A) → slice_get xs q ≡ Some y → P q y
all_below xs P i le below q y h = let lt = inside xs q y h in below q y (omega (arith, lt, le)) h

-- ---- maps

-- one element more of a map
pub map_more : {A B : Type 0} (f : A → B) (xs : List A) (i : ℕ) (x : A) → slice_get xs i ≡ Some x → map f (take i xs) ++ f x ∷ [] ≡ map f (take (i + 1) xs)
map_more {A} {B} f xs i x h = let next : suc i ≡ i + 1 = omega arith in subst (λ k. map f (take i xs) ++ f x ∷ [] ≡ map f (take k xs)) next (go xs i h)
  where
    go : (xs : List A) (i : ℕ) → slice_get xs i ≡ Some x → map f (take i xs) ++ f x ∷ [] ≡ map f (take (suc i) xs)
    go [] i h = absurd (none-some x h)
    go (y ∷ xs) zero h = ap (λ z. f z ∷ []) (sym (same_Some y x h))
    go (y ∷ xs) (suc i) h = ap (λ l. f y ∷ l) (go xs i h)

-- the element from which a map's element is made
pub unmapped : {A B : Type 0} (f : A → B) (xs : List A) (i : ℕ) (b : B) → slice_get (map f xs) i ≡ Some b → (a : A) × (slice_get xs i ≡ Some a) × (f a ≡ b)
unmapped f [] i b h = absurd (none-some b h)
unmapped f (y ∷ xs) zero b h = (y, refl, same_Some (f y) b h)
unmapped f (y ∷ xs) (suc i) b h = unmapped f xs i b h

pub mapped : {A B : Type 0} (f : A → B) (xs : List A) (i : ℕ) (a : A) → slice_get xs i ≡ Some a → slice_get (map f xs) i ≡ Some (f a)
mapped f [] i a h = absurd (none-some a h)
mapped f (y ∷ xs) zero a h = ap (λ z. Some (f z)) (same_Some y a h)
mapped f (y ∷ xs) (suc i) a h = mapped f xs i a h

-- the element at a place within
pub some_at : {A : Type 0} (xs : List A) (i : ℕ) → i < length xs → (x : A) × (slice_get xs i ≡ Some x)
some_at xs i lt = elim (slice_get_cases xs i).1 [ inl t ↦ (t.0, t.2) | inr t ↦ (let le = t.0 in absurd (omega (arith, lt, le))) ]

pub all_got : {A : Type 0} (P : A → Type 0) (xs : List A) (i : ℕ) (x : A) → AllByRecursion P xs → slice_get xs i ≡ Some x → P x
all_got P [] i x all h = absurd (none-some x h)
all_got P (y ∷ xs) zero x all h = subst P (same_Some y x h) all.0
all_got P (y ∷ xs) (suc i) x all h = all_got P xs i x all.1 h
