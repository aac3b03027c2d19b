-- The number of wanted elements from an index on.
use Rattle.std.proofs.Common.{◌≡◌, ◌<◌, ◌≤◌, ◌+◌, ◌-◌, ◌*◌, ◌^◌, ℕ, zero, suc, Bool, true, false, cond, List, [], ◌∷◌, ◌++◌, length, set, take, drop, refl, ap, sym, ◌∙◌, arith}
use Rattle.std.specs.Prelude.{nat_lt, min}
use native.Mathlib.Numerals.{unary_clauses}
use Rattle.std.specs.List.{AllByRecursion, count_by}
use Rattle.std.proofs.Math.Nat.{min-eq_left, min-eq_right}
use Rattle.std.proofs.lemmas.Bool.{ltb-true, ltb-false}
use Rattle.std.proofs.lemmas.List.{drop-drop, drop_all}
use Rattle.std.proofs.lemmas.List.Sums.{sum_by-take-drop}
use Rattle.crsm_sim_network.specs.Nth.{IsNth, IsFrom}
use Rattle.crsm_sim_network.specs.Tally.{block}
use Rattle.crsm_sim_network.proofs.Blocked.{next_block}

pub all_dropped : (P : ℕ → Type 0) (n : ℕ) (xs : List ℕ) → AllByRecursion P xs → AllByRecursion P (drop n xs)
all_dropped P zero xs all = all
all_dropped P (suc n) [] all = tt
all_dropped P (suc n) (x ∷ xs) all = all_dropped P n xs all.1

pub all_taken : (P : ℕ → Type 0) (n : ℕ) (xs : List ℕ) → AllByRecursion P xs → AllByRecursion P (take n xs)
all_taken P zero xs all = tt
all_taken P (suc n) [] all = tt
all_taken P (suc n) (x ∷ xs) all = (all.0, all_taken P n xs all.1)

-- from a block on there are those of the block, and those from the next block on
pub from_block : (test : ℕ → Bool) (size b : ℕ) (xs : List ℕ) → count_by test (block size b xs) + count_by test (drop ((b + 1) * size) xs) ≡ count_by test (drop (b * size) xs)
from_block test size b xs =
    let sum = sum_by-take-drop (λ x. cond (test x) 1 0) (drop (b * size) xs) size in
    let next : drop ((b + 1) * size) xs ≡ drop size (drop (b * size) xs) = ap (λ n. drop n xs) (next_block b size) ∙ sym (drop-drop size (b * size) xs) in
    ap (λ ys. count_by test (block size b xs) + count_by test ys) next ∙ sum

-- a place that is past the end, up to the greatest number of 64 bits, is past the end
pub capped : (a k : ℕ) (xs : List ℕ) → 1 ≤ k → length xs < 2 ^ 63 → drop (min a (2 ^ 64 - 1) * k) xs ≡ drop (a * k) xs
capped a k xs one few =
    elim (nat_lt (2 ^ 64 - 1) a) as (λ b. nat_lt (2 ^ 64 - 1) a ≡ b → drop (min a (2 ^ 64 - 1) * k) xs ≡ drop (a * k) xs) [
      | true ↦ λ e.
          let l = ltb-true (2 ^ 64 - 1) a e in
          let c : min a (2 ^ 64 - 1) ≡ 2 ^ 64 - 1 = min-eq_right (omega (arith, l)) in
          let m = times (2 ^ 64 - 1) k one in
          let n = times a k one in
          ap (λ i. drop (i * k) xs) c ∙ drop_all ((2 ^ 64 - 1) * k) xs (omega (arith, few, m)) ∙ sym (drop_all (a * k) xs (omega (arith, few, l, n)))
      | false ↦ λ e. let l = ltb-false (2 ^ 64 - 1) a e in ap (λ i. drop (i * k) xs) (min-eq_left l)
    ] refl
  where
    times : (a k : ℕ) → 1 ≤ k → a ≤ a * k
    times a zero l = absurd (omega arith)
    times a (suc k) l = let s : a * suc k ≡ a * k + a = simp unary_clauses refl in omega (arith, s)

pub capped_place : (a : ℕ) (xs : List ℕ) → length xs < 2 ^ 63 → drop (min a (2 ^ 64 - 1)) xs ≡ drop a xs
capped_place a xs few =
    elim (nat_lt (2 ^ 64 - 1) a) as (λ b. nat_lt (2 ^ 64 - 1) a ≡ b → drop (min a (2 ^ 64 - 1)) xs ≡ drop a xs) [
      | true ↦ λ e.
          let l = ltb-true (2 ^ 64 - 1) a e in
          let c : min a (2 ^ 64 - 1) ≡ 2 ^ 64 - 1 = min-eq_right (omega (arith, l)) in
          ap (λ i. drop i xs) c ∙ drop_all (2 ^ 64 - 1) xs (omega (arith, few)) ∙ sym (drop_all a xs (omega (arith, few, l)))
      | false ↦ λ e. let l = ltb-false (2 ^ 64 - 1) a e in ap (λ i. drop i xs) (min-eq_left l)
    ] refl

-- counted from the start
pub from_start : (test : ℕ → Bool) (xs : List ℕ) (j first r n : ℕ) → IsFrom test xs first r n → j + count_by test (drop first xs) ≡ r + count_by test xs → IsNth test xs j n
from_start test xs j first r n is e = record {
  element = is.element;
  is = is.is;
  passes = is.passes;
  before = let sum = sum_by-take-drop (λ x. cond (test x) 1 0) xs n in let b = is.between in omega (arith, sum, b, e);
}

-- ---- an element of another class

pub all_set : (P : ℕ → Type 0) (xs : List ℕ) (i c : ℕ) → P c → AllByRecursion P xs → AllByRecursion P (set xs i c)
all_set P [] i c p all = tt
all_set P (x ∷ xs) zero c p all = (p, all.1)
all_set P (x ∷ xs) (suc i) c p all = (all.0, all_set P xs i c p all.1)

pub all_more : (P : ℕ → Type 0) (xs : List ℕ) (c : ℕ) → P c → AllByRecursion P xs → AllByRecursion P (xs ++ c ∷ [])
all_more P [] c p all = (p, tt)
all_more P (x ∷ xs) c p all = (all.0, all_more P xs c p all.1)
