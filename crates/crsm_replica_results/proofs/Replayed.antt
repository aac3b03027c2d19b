-- Entries that are executed again.
use Rattle.std.proofs.Common.{◌≡◌, ℕ, zero, suc, ◌+◌, List, [], ◌∷◌, ◌++◌, take, ap, ◌∙◌, arith}
use Rattle.std.specs.Prelude.{slice_get, Some}

taken_suc : {X : Type 0} (xs : List X) (i : ℕ) (x : X) → slice_get xs i ≡ Some x → take (suc i) xs ≡ take i xs ++ x ∷ []
taken_suc [] i x is = cc
taken_suc (y ∷ xs) zero x is = let same : y ≡ x = cc in ap (λ z. z ∷ []) same
taken_suc (y ∷ xs) (suc i) x is = ap (λ rest. y ∷ rest) (taken_suc xs i x is)

-- the prefix with the next one
pub next_taken : {X : Type 0} (xs : List X) (i : ℕ) (x : X) → slice_get xs i ≡ Some x → take (i + 1) xs ≡ take i xs ++ x ∷ []
next_taken xs i x is = let next : i + 1 ≡ suc i = omega arith in ap (λ n. take n xs) next ∙ taken_suc xs i x is
