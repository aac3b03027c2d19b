-- The executed values from a slot on, with one more.
use Rattle.std.proofs.Common.{◌≡◌, ℕ, zero, suc, ◌+◌, ◌-◌, ◌<◌, ◌≤◌, List, [], ◌∷◌, ◌++◌, Some, refl, ap, ◌∙◌, length, arith}
use Rattle.std.specs.Prelude.{Bool, true, false, nat_le, Option, min, drop, fold, slice_get, take}
use Rattle.std.specs.List.{enumerate_from}
use Rattle.std.proofs.lemmas.Bool.{leb-true, leb-false}
use Rattle.crsm_mpspec.specs.Types.{Value}
use Rattle.crsm_mpspec.specs.Draft.{Draft, send}
use Rattle.crsm_mpspec.specs.Step.{teach}

module _ {A : Type 0} where
  taken_as : (n m : ℕ) (xs : List A) → n ≡ m → take n xs ≡ take m xs
  taken_as n m xs e = ap (λ (k : ℕ). take k xs) e

  take_next : (xs : List A) (k : ℕ) (v : A) → slice_get xs k ≡ Some v → take (suc k) xs ≡ take k xs ++ v ∷ []
  take_next [] k v e = absurd cc
  take_next (x ∷ xs) zero v e = ap (λ (y : A). y ∷ []) (inside e)
    where
      inside : ◌≡◌ {A = Option A} (Some x) (Some v) → x ≡ v
      inside w = cc
  take_next (x ∷ xs) (suc k) v e = ap (λ (ys : List A). x ∷ ys) (take_next xs k v e)

  pub take-behind : (f k : ℕ) (xs : List A) (v : A) → f ≤ k → slice_get xs k ≡ Some v → take (k + 1 - f) (drop f xs) ≡ take (k - f) (drop f xs) ++ v ∷ []
  take-behind zero k xs v most e =
      taken_as (k + 1 - 0) (suc k) xs (omega arith) ∙ take_next xs k v e ∙ ap (λ (ys : List A). ys ++ v ∷ []) (taken_as k (k - 0) xs (omega arith))
  take-behind (suc f) k [] v most e = absurd cc
  take-behind (suc f) zero (x ∷ xs) v most e = absurd (omega (arith, most))
  take-behind (suc f) (suc k) (x ∷ xs) v most e =
      taken_as (suc k + 1 - suc f) (k + 1 - f) (drop f xs) (omega arith) ∙ take-behind f k xs v (omega (arith, most)) e
      ∙ ap (λ (ys : List A). ys ++ v ∷ []) (taken_as (k - f) (suc k - suc f) (drop f xs) (omega arith))

  -- no more is taken than there is
  pub take-least : (xs : List A) (m n : ℕ) → min m (length xs) ≡ min n (length xs) → take m xs ≡ take n xs
  take-least [] zero zero e = refl
  take-least [] zero (suc n) e = refl
  take-least [] (suc m) zero e = refl
  take-least [] (suc m) (suc n) e = refl
  take-least (x ∷ xs) zero zero e = refl
  take-least (x ∷ xs) zero (suc n) e = absurd (omega (arith, e))
  take-least (x ∷ xs) (suc m) zero e = absurd (omega (arith, e))
  take-least (x ∷ xs) (suc m) (suc n) e = ap (λ (ys : List A). x ∷ ys) (take-least xs m n (omega (arith, e)))

  pub numbered : (n : ℕ) (xs : List A) (k : ℕ) (v : A) → slice_get xs k ≡ Some v → slice_get (enumerate_from n xs) k ≡ Some (n + k, v)
  numbered n [] k v e = absurd cc
  numbered n (x ∷ xs) zero v e = ap (λ (p : ℕ × A). Some p) (pair (omega arith) (inside e))
    where
      inside : ◌≡◌ {A = Option A} (Some x) (Some v) → x ≡ v
      inside w = cc

      pair : n ≡ n + 0 → x ≡ v → ◌≡◌ {A = ℕ × A} (n, x) (n + 0, v)
      pair a b = rw (← a, b) refl
  numbered n (x ∷ xs) (suc k) v e = numbered (n + 1) xs k v e ∙ ap (λ (j : ℕ). Some (j, v)) (next n k)
    where
      next : (n k : ℕ) → n + 1 + k ≡ n + suc k
      next n k = omega arith

  pub numbered-len : (n : ℕ) (xs : List A) → length (enumerate_from n xs) ≡ length xs
  numbered-len n [] = refl
  numbered-len n (x ∷ xs) = omega (arith, numbered-len (n + 1) xs)

  pub dropped-len : (f : ℕ) (xs : List A) → length (drop f xs) ≡ length xs - f
  dropped-len zero xs = omega arith
  dropped-len (suc f) [] = omega arith
  dropped-len (suc f) (x ∷ xs) = omega (arith, dropped-len f xs)

  pub some-at : (xs : List A) (k : ℕ) → k < length xs → (v : A) × (slice_get xs k ≡ Some v)
  some-at [] k l = absurd (omega (arith, l))
  some-at (x ∷ xs) zero l = (x, refl)
  some-at (x ∷ xs) (suc k) l = some-at xs k (omega (arith, l))

  pub none-taken : (f : ℕ) (xs : List A) → take (f - f) xs ≡ []
  none-taken f xs = taken_as (f - f) 0 xs (omega arith)

-- teaching sends alone
teach-replica : (k : ℕ) (xs : List (ℕ × Value)) (x : Draft) → (fold (teach k) x xs).replica ≡ x.replica
unfolding teach send
teach-replica k [] x = refl
teach-replica k (s ∷ ss) x = teach-replica k ss (teach k x s)

pub taught-replica : (k : ℕ) (xs : List (ℕ × Value)) (x : Draft) → (fold (teach k) x xs).replica ≡ x.replica
taught-replica k xs x = teach-replica k xs x

-- at the end of a loop from a slot on, all values there are were sent, but no more than the limit
pub settled : (a k sum len end rest : ℕ) → len < 18446744073709551616 → sum ≡ min (a + 64) 18446744073709551615 → end ≡ min sum len → rest ≡ len - a → a ≤ k → (a ≤ end → k ≤ end) → end ≤ k
    → min (k - a) rest ≡ min 64 rest
settled a k sum len end rest below sums ends rests least most last = by_test (nat_le a end) refl
  where
    by_test : (t : Bool) → nat_le a end ≡ t → min (k - a) rest ≡ min 64 rest
    by_test true is = omega (arith, below, sums, ends, rests, least, most (leb-true a end is), last)
    by_test false is = omega (arith, below, sums, ends, rests, least, leb-false a end is, last)
