-- Lists of distinct numbers, one number at a time.
use Rattle.std.proofs.Common.{◌≡◌, ◌≢◌, ℕ, ◌+◌, ◌<◌, ◌≤◌, zero, suc, List, [], ◌∷◌, length, get_or, drop, true, false, Bool, ◌||◌, nat_eq, refl, ap, sym, subst, arith, ◌∙◌}
use Rattle.std.specs.List.{AllByRecursion, list_any}
use Rattle.std.proofs.lemmas.List.{drop_more}
use Rattle.std.proofs.lemmas.Bool.Decides.{nat_tests}
use Rattle.crsm_schedule.specs.Grammar.{AreDistinct}

or_false : (a b : Bool) → a || b ≡ false → (a ≡ false) × (b ≡ false)
or_false true b h = cc
or_false false b h = (refl, h)

other : (a b : ℕ) → nat_eq a b ≡ false → b ≢ a
other a b h e = grind (arith, nat_tests)

tested : (a b : ℕ) → b ≢ a → nat_eq a b ≡ false
tested a b h = grind (arith, nat_tests)

none_equal : (n : ℕ) (ys : List ℕ) → list_any (λ y. nat_eq y n) ys ≡ false → AllByRecursion (λ m. n ≢ m) ys
none_equal n [] h = tt
none_equal n (y ∷ ys) h = let p = or_false (nat_eq y n) (list_any (λ y. nat_eq y n) ys) h in (other y n p.0, none_equal n ys p.1)

any_false : (n : ℕ) (ys : List ℕ) → AllByRecursion (λ m. n ≢ m) ys → list_any (λ y. nat_eq y n) ys ≡ false
any_false n [] h = refl
any_false n (y ∷ ys) h = rw (tested y n h.0, any_false n ys h.1) refl

pub distinct_step : (xs : List ℕ) (i n : ℕ) → i < length xs → get_or xs i 0 ≡ n → list_any (λ y. nat_eq y n) (drop (i + 1) xs) ≡ false
    → (AreDistinct (drop i xs) → AreDistinct (drop (i + 1) xs)) × (AreDistinct (drop (i + 1) xs) → AreDistinct (drop i xs))
distinct_step xs i n within here none =
    let cut : drop i xs ≡ n ∷ drop (i + 1) xs = drop_more xs i 0 within ∙ ap (λ (y : ℕ). y ∷ drop (i + 1) xs) here in (
      λ d. (subst (λ (s : List ℕ). AreDistinct s) cut d).1,
      λ d. subst (λ (s : List ℕ). AreDistinct s) (sym cut) (none_equal n (drop (i + 1) xs) none, d),
    )

pub not_distinct : (xs : List ℕ) (i n : ℕ) → i < length xs → get_or xs i 0 ≡ n → list_any (λ y. nat_eq y n) (drop (i + 1) xs) ≡ true
    → AreDistinct (drop i xs) → ⊥
not_distinct xs i n within here some d =
    let cut : drop i xs ≡ n ∷ drop (i + 1) xs = drop_more xs i 0 within ∙ ap (λ (y : ℕ). y ∷ drop (i + 1) xs) here in
    let all = (subst (λ (s : List ℕ). AreDistinct s) cut d).0 in
    let none : list_any (λ y. nat_eq y n) (drop (i + 1) xs) ≡ false = any_false n (drop (i + 1) xs) all in
    cc

pub distinct_end : (xs : List ℕ) (i : ℕ) → length xs ≤ i → AreDistinct (drop i xs)
distinct_end [] zero past = tt
distinct_end (x ∷ xs) zero past = absurd (omega (arith, past))
distinct_end [] (suc i) past = tt
distinct_end (x ∷ xs) (suc i) past = distinct_end xs i (omega arith)
