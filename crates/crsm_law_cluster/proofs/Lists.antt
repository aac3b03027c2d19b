-- Lists with one element changed, and lists of numbers.
use Rattle.std.proofs.Common.{◌≡◌, ℕ, zero, suc, ◌+◌, ◌<◌, ◌≤◌, List, [], ◌∷◌, ◌++◌, length, map, refl, sym, ◌∙◌, ap, inl, inr, arith}
use Rattle.std.specs.Prelude.{◌⊎◌, Some, None, slice_get, slice_set}
use Rattle.std.specs.List.{range_with_len}
use Rattle.std.proofs.lemmas.Option.{none-some}

pub got_set : {A : Type 0} (xs : List A) (k : ℕ) (x y : A) → slice_get xs k ≡ Some x → slice_get (slice_set xs k y) k ≡ Some y
got_set [] k x y e = absurd (none-some x e)
got_set (z ∷ xs) zero x y e = refl
got_set (z ∷ xs) (suc k) x y e = got_set xs k x y e

pub got_other : {A : Type 0} (xs : List A) (k j : ℕ) (y : A) → (j ≡ k → ⊥) → slice_get (slice_set xs k y) j ≡ slice_get xs j
got_other [] k j y ne = refl
got_other (z ∷ xs) zero zero y ne = absurd (ne refl)
got_other (z ∷ xs) zero (suc j) y ne = refl
got_other (z ∷ xs) (suc k) zero y ne = refl
got_other (z ∷ xs) (suc k) (suc j) y ne = got_other xs k j y (λ e. ne (ap suc e))

pub set_length : {A : Type 0} (xs : List A) (k : ℕ) (y : A) → length (slice_set xs k y) ≡ length xs
set_length [] k y = refl
set_length (x ∷ xs) zero y = refl
set_length (x ∷ xs) (suc k) y = ap suc (set_length xs k y)

pub set_none : {A : Type 0} (xs : List A) (k : ℕ) (y : A) → slice_get xs k ≡ None → slice_set xs k y ≡ xs
set_none [] k y e = refl
set_none (x ∷ xs) zero y e = absurd (none-some x (sym e))
set_none (x ∷ xs) (suc k) y e = ap (λ l. x ∷ l) (set_none xs k y e)

pub below : {A : Type 0} (xs : List A) (k : ℕ) (x : A) → slice_get xs k ≡ Some x → k < length xs
below [] k x e = absurd (none-some x e)
below (y ∷ xs) zero x e = omega arith
below (y ∷ xs) (suc k) x e = let t = below xs k x e in omega (arith, t)

pub none_above : {A : Type 0} (xs : List A) (k : ℕ) → slice_get xs k ≡ None → length xs ≤ k
none_above [] k e = omega arith
none_above (x ∷ xs) zero e = absurd (none-some x (sym e))
none_above (x ∷ xs) (suc k) e = let t = none_above xs k e in omega (arith, t)

-- an end that is added: each place has what it had, or it is the new one, where nothing was
pub added : {A : Type 0} (ss : List A) (y : A) (j : ℕ) → (slice_get (ss ++ y ∷ []) j ≡ slice_get ss j) ⊎ ((slice_get ss j ≡ None) × (slice_get (ss ++ y ∷ []) j ≡ Some y))
added [] y zero = inr (refl, refl)
added [] y (suc j) = inl refl
added (s ∷ ss) y zero = inl refl
added (s ∷ ss) y (suc j) = added ss y j

pub at_end : {A : Type 0} (ss : List A) (y : A) → slice_get (ss ++ y ∷ []) (length ss) ≡ Some y
at_end [] y = refl
at_end (s ∷ ss) y = at_end ss y

pub got_range : {A : Type 0} (f : ℕ → A) (a n i : ℕ) → i < n → slice_get (map f (range_with_len a n)) i ≡ Some (f (a + i))
got_range f a zero i lt = absurd (omega (arith, lt))
got_range f a (suc n) zero lt = ap (λ j. Some (f j)) (omega arith)
got_range f a (suc n) (suc i) lt = got_range f (a + 1) n i (omega (arith, lt)) ∙ ap (λ j. Some (f j)) (omega arith)

pub none_in_range : {A : Type 0} (f : ℕ → A) (a n i : ℕ) → n ≤ i → slice_get (map f (range_with_len a n)) i ≡ None
none_in_range f a zero i le = refl
none_in_range f a (suc n) zero le = absurd (omega (arith, le))
none_in_range f a (suc n) (suc i) le = none_in_range f (a + 1) n i (omega (arith, le))

pub range_length : {A : Type 0} (f : ℕ → A) (a n : ℕ) → length (map f (range_with_len a n)) ≡ n
range_length f a zero = refl
range_length f a (suc n) = ap suc (range_length f (a + 1) n)
