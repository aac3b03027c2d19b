-- Lists of distinct numbers, one number at a time.
use Rattle.std.proofs.Common.{◌≡◌, ◌≢◌, ℕ, ◌+◌, ◌<◌, ◌≤◌, zero, suc, List, [], ◌∷◌, length, get_or, drop, true, false, Bool, ◌||◌, nat_eq, refl, ap, sym, subst, arith, ◌∙◌}
use Rattle.std.specs.List.{AllByRecursion, IsDistinct, list_any}
use Rattle.std.proofs.lemmas.List.{drop_more}
use Rattle.std.proofs.lemmas.Bool.Decides.{nat_tests}

or_false : (a b : Bool) → a || b ≡ false → (a ≡ false) × (b ≡ false)
or_false true b h = cc
or_false false b h = (refl, h)

flipped : (a b : ℕ) → nat_eq a b ≡ false → nat_eq b a ≡ false
flipped a b h = grind (arith, nat_tests)

none_equal : (n : ℕ) (ys : List ℕ) → list_any (λ y. nat_eq y n) ys ≡ false → AllByRecursion (λ m. nat_eq n m ≡ false) ys
none_equal n [] h = tt
none_equal n (y ∷ ys) h = let p = or_false (nat_eq y n) (list_any (λ y. nat_eq y n) ys) h in (flipped y n p.0, none_equal n ys p.1)

any_false : (n : ℕ) (ys : List ℕ) → AllByRecursion (λ m. nat_eq n m ≡ false) ys → list_any (λ y. nat_eq y n) ys ≡ false
any_false n [] h = refl
any_false n (y ∷ ys) h = rw (flipped n y h.0, any_false n ys h.1) refl

pub distinct_step : (xs : List ℕ) (i n : ℕ) → i < length xs → get_or xs i 0 ≡ n → list_any (λ y. nat_eq y n) (drop (i + 1) xs) ≡ false
    → (IsDistinct nat_eq (drop i xs) → IsDistinct nat_eq (drop (i + 1) xs)) × (IsDistinct nat_eq (drop (i + 1) xs) → IsDistinct nat_eq (drop i xs))
unfolding IsDistinct
distinct_step xs i n within here none =
    let cut : drop i xs ≡ n ∷ drop (i + 1) xs = drop_more xs i 0 within ∙ ap (λ (y : ℕ). y ∷ drop (i + 1) xs) here in (
      λ d. (subst (λ (s : List ℕ). IsDistinct nat_eq s) cut d).1,
      λ d. subst (λ (s : List ℕ). IsDistinct nat_eq s) (sym cut) (none_equal n (drop (i + 1) xs) none, d),
    )

pub not_distinct : (xs : List ℕ) (i n : ℕ) → i < length xs → get_or xs i 0 ≡ n → list_any (λ y. nat_eq y n) (drop (i + 1) xs) ≡ true
    → IsDistinct nat_eq (drop i xs) → ⊥
unfolding IsDistinct
not_distinct xs i n within here some d =
    let cut : drop i xs ≡ n ∷ drop (i + 1) xs = drop_more xs i 0 within ∙ ap (λ (y : ℕ). y ∷ drop (i + 1) xs) here in
    let all = (subst (λ (s : List ℕ). IsDistinct nat_eq s) cut d).0 in
    let none : list_any (λ y. nat_eq y n) (drop (i + 1) xs) ≡ false = any_false n (drop (i + 1) xs) all in
    cc

pub distinct_end : (xs : List ℕ) (i : ℕ) → length xs ≤ i → IsDistinct nat_eq (drop i xs)
unfolding IsDistinct
distinct_end [] zero past = tt
distinct_end (x ∷ xs) zero past = absurd (omega (arith, past))
distinct_end [] (suc i) past = tt
distinct_end (x ∷ xs) (suc i) past = distinct_end xs i (omega arith)
