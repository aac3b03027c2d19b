-- The first numbers of a range are a prefix of a longer range.
use Rattle.std.proofs.Common.{◌≡◌, ℕ, suc, zero, ◌≤◌, ◌+◌, [], ◌∷◌, refl, ap, arith, take}
use Rattle.std.specs.Prelude.{min}
use Rattle.std.specs.List.{range_with_len}
use Rattle.crsm_base.specs.Replicas.{numbers_below}

take-range : (a n m : ℕ) → n ≤ m → take n (range_with_len a m) ≡ range_with_len a n
take-range a zero m few = refl
take-range a (suc n) zero few = absurd (omega arith)
take-range a (suc n) (suc m) few = ap (λ rest. a ∷ rest) (take-range (a + 1) n m (omega arith))

pub first_numbers : (n k : ℕ) → n ≤ 15 → k ≡ min n 15 → take k (0 ∷ 1 ∷ 2 ∷ 3 ∷ 4 ∷ 5 ∷ 6 ∷ 7 ∷ 8 ∷ 9 ∷ 10 ∷ 11 ∷ 12 ∷ 13 ∷ 14 ∷ []) ≡ numbers_below n
unfolding numbers_below
first_numbers n k few is = let same : k ≡ n = omega arith in rw same (take-range 0 n 15 few)
