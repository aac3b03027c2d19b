-- The median and the greatest of a list, by the sorted list of those that are above a bound.
use Rattle.std.proofs.Common.{arith, ◌≡◌, ℕ, suc, ◌+◌, ◌-◌, ◌*◌, ◌/◌, ◌<◌, ◌≤◌, Bool, true, false, List, [], ◌∷◌, length, get_or, take, drop, refl, ap, sym, ◌∙◌, subst, ltb-false, ltb-true, le-ltb, lt-ltb, le-leb, length-drop, length-take-le, get_or-drop, get_or-take}
use Rattle.std.specs.Prelude.{cond, nat_le, nat_lt, count_by, filter}
use Rattle.std.specs.List.{All}
use Rattle.std.specs.List.Sorted.{IsNonDecreasing, IsPermutation}
use Rattle.std.proofs.lemmas.List.Elements.{All-cons, All-get_or, All-nil}
use Rattle.std.proofs.lemmas.List.Sums.{count_by-le-length, length-filter, sum_by-cons, sum_by-take-drop}
use Rattle.std.proofs.lemmas.List.Sorted.{All-permutation, length_permutation, sum_by-IsPermutation}
use Rattle.crsm_replica_journal.specs.Flushes.{IsGreatest, IsMedian, at_most, below}

-- a count where all pass, or none
counts_all : (p : ℕ → Bool) (xs : List ℕ) → ((i : ℕ) → i < length xs → p (get_or xs i 0) ≡ true) → count_by p xs ≡ length xs
counts_all p [] each = refl
counts_all p (x ∷ xs) each =
    let first : ◌≡◌ {A = ℕ} (cond (p x) 1 0) 1 = ap (λ b. cond b 1 0) (each 0 (omega arith)) in
    let rest = counts_all p xs (λ i lt. each (suc i) (omega arith)) in
    omega (arith, sum_by-cons (λ y. cond (p y) 1 0) x xs, first, rest)

counts_none : (p : ℕ → Bool) (xs : List ℕ) → ((i : ℕ) → i < length xs → p (get_or xs i 0) ≡ false) → count_by p xs ≡ 0
counts_none p [] each = refl
counts_none p (x ∷ xs) each =
    let first : ◌≡◌ {A = ℕ} (cond (p x) 1 0) 0 = ap (λ b. cond b 1 0) (each 0 (omega arith)) in
    let rest = counts_none p xs (λ i lt. each (suc i) (omega arith)) in
    omega (arith, sum_by-cons (λ y. cond (p y) 1 0) x xs, first, rest)

-- what a filter leaves passes
all_pass : (p : ℕ → Bool) (xs : List ℕ) → All (λ x. p x ≡ true) (filter p xs)
all_pass p [] = All-nil (λ x. p x ≡ true)
all_pass p (x ∷ xs) = by (p x) refl (all_pass p xs)
  where
    by : (b : Bool) → p x ≡ b → All (λ y. p y ≡ true) (filter p xs) → All (λ y. p y ≡ true) (cond b (x ∷ filter p xs) (filter p xs))
    by true is rest = All-cons (λ y. p y ≡ true) x (filter p xs) is rest
    by false is rest = rest

-- in a list in order, those below the one at a place stand before it, and none before it is above it
few_below : (xs : List ℕ) (i : ℕ) → IsNonDecreasing xs → i < length xs → below (get_or xs i 0) xs ≤ i
few_below xs i up lt =
    let test : ℕ → Bool = λ x. nat_lt x (get_or xs i 0) in
    let behind = counts_none test (drop i xs) (λ j less.
    le-ltb (get_or (drop i xs) j 0) (get_or xs i 0) (subst (λ y. get_or xs i 0 ≤ y) (sym (get_or-drop i xs j 0)) (up i (i + j) 0 (omega arith) (omega (arith, less, length-drop i xs))))) in
    omega (arith, behind, sum_by-take-drop (λ y. cond (test y) 1 0) xs i, count_by-le-length test (take i xs), length-take-le i xs (omega arith))

many_at_most : (xs : List ℕ) (i : ℕ) → IsNonDecreasing xs → i < length xs → i + 1 ≤ at_most (get_or xs i 0) xs
many_at_most xs i up lt =
    let test : ℕ → Bool = λ x. nat_le x (get_or xs i 0) in
    let long : length (take (i + 1) xs) ≡ i + 1 = length-take-le (i + 1) xs (omega arith) in
    let front = counts_all test (take (i + 1) xs) (λ j less.
    le-leb (get_or (take (i + 1) xs) j 0) (get_or xs i 0) (subst (λ y. y ≤ get_or xs i 0) (sym (get_or-take (i + 1) xs j 0 (omega (arith, less, long)))) (up j i 0 (omega (arith, less, long)) lt))) in
    omega (arith, front, long, sum_by-take-drop (λ y. cond (test y) 1 0) xs (i + 1))

-- where all up to a bound pass, those that pass are these, and those above it that pass
counts_above : (p : ℕ → Bool) (bound : ℕ) → ((x : ℕ) → x ≤ bound → p x ≡ true) → (xs : List ℕ) → count_by p xs + length (filter (λ t. nat_lt bound t) xs) ≡ length xs + count_by p (filter (λ t. nat_lt bound t) xs)
counts_above p bound passes [] = refl
counts_above p bound passes (x ∷ xs) = by (nat_lt bound x) refl (counts_above p bound passes xs)
  where
    slow : List ℕ
    slow = filter (λ t. nat_lt bound t) xs

    here : count_by p (x ∷ xs) ≡ cond (p x) 1 0 + count_by p xs
    here = sum_by-cons (λ y. cond (p y) 1 0) x xs

    by : (b : Bool) → nat_lt bound x ≡ b → count_by p xs + length slow ≡ length xs + count_by p slow → count_by p (x ∷ xs) + length (cond b (x ∷ slow) slow) ≡ suc (length xs) + count_by p (cond b (x ∷ slow) slow)
    by true is rest = omega (arith, here, rest, sum_by-cons (λ y. cond (p y) 1 0) x slow)
    by false is rest =
        let passed : ◌≡◌ {A = ℕ} (cond (p x) 1 0) 1 = ap (λ b. cond b 1 0) (passes x (ltb-false bound x is)) in
        omega (arith, here, rest, passed)

module _ (bound : ℕ) (times sorted : List ℕ) (same : IsPermutation (filter (λ t. nat_lt bound t) times) sorted) where
  long : length sorted ≡ length (filter (λ t. nat_lt bound t) times)
  long = length_permutation _ sorted same

  counts : (p : ℕ → Bool) → ((x : ℕ) → x ≤ bound → p x ≡ true) → count_by p times + length sorted ≡ length times + count_by p sorted
  counts p passes = omega (arith, long, counts_above p bound passes times, sum_by-IsPermutation (λ y. cond (p y) 1 0) _ sorted same)

  pub fewer : length sorted ≤ length times
  fewer = omega (arith, long, length-filter (λ t. nat_lt bound t) times, count_by-le-length (λ t. nat_lt bound t) times)

  -- those up to the bound are at least the others
  pub fast : length times ≤ at_most bound times + length sorted
  fast = let all = counts (λ x. nat_le x bound) (λ x le. le-leb x bound le) in omega (arith, all)

  pub all_fast : length sorted ≡ 0 → at_most bound times ≡ length times
  all_fast none = omega (arith, none, fast, count_by-le-length (λ x. nat_le x bound) times)

  module _ (up : IsNonDecreasing sorted) (i : ℕ) (lt : i < length sorted) where
    above : bound < get_or sorted i 0
    above = ltb-true bound (get_or sorted i 0) (All-get_or (λ t. nat_lt bound t ≡ true) sorted i 0 lt (All-permutation (λ t. nat_lt bound t ≡ true) _ sorted same (all_pass (λ t. nat_lt bound t) times)))

    less : below (get_or sorted i 0) times + length sorted ≤ length times + i
    less =
        let all = counts (λ x. nat_lt x (get_or sorted i 0)) (λ x le. lt-ltb x (get_or sorted i 0) (omega (arith, above))) in
        omega (arith, all, few_below sorted i up lt)

    more : length times + i + 1 ≤ at_most (get_or sorted i 0) times + length sorted
    more =
        let all = counts (λ x. nat_le x (get_or sorted i 0)) (λ x le. le-leb x (get_or sorted i 0) (omega (arith, above))) in
        omega (arith, all, many_at_most sorted i up lt)

    pub median : i + (length times - length sorted) ≡ (length times - 1) / 2 → IsMedian times (get_or sorted i 0)
    median at = record {
      half = omega (arith, at, more, fewer);
      fewer = omega (arith, at, less, fewer, lt);
    }

    pub greatest : i + 1 ≡ length sorted → IsGreatest times (get_or sorted i 0)
    greatest last = record {
      all = omega (arith, more, last, count_by-le-length (λ x. nat_le x (get_or sorted i 0)) times);
      one = omega (arith, less, last);
    }
