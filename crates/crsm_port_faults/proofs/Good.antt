-- How many further calls succeed.
use Rattle.std.proofs.Common.{◌≡◌, ℕ, ◌+◌, ◌-◌, ◌^◌, ◌<◌, ◌≤◌, List, [], ◌∷◌, refl, sym, ◌∙◌, ap, subst, arith, nat_eq, nat_lt, Bool, true, false, inl, inr, ◌⊎◌}
use Rattle.std.specs.Prelude.{Option, Some, None}
use Rattle.std.specs.List.{list_any}
use Rattle.std.specs.Bool.{OnTrue, OnFalse}
use Rattle.std.proofs.lemmas.Bool.Decides.{nat_tests}
use Rattle.std.proofs.lemmas.Bool.{cases_eq}
use Rattle.crsm_port_faults.specs.Failing.{one_less}
use Rattle.crsm_port_faults.specs.Failing.{least, until_listed, IsNotEnd}

pub one_less-least : (a b : Option ℕ) → one_less (least a b) ≡ least (one_less a) (one_less b)
one_less-least None b = refl
one_less-least (Some a) None = refl
one_less-least (Some a) (Some b) = ap Some (omega arith)

pub least_none : (a : Option ℕ) → least a None ≡ a
least_none None = refl
least_none (Some a) = refl

pub least_zero : (a : Option ℕ) → least a (Some 0) ≡ Some 0
least_zero None = refl
least_zero (Some a) = ap Some (omega arith)

pub zero_least : (b : Option ℕ) → least (Some 0) b ≡ Some 0
zero_least None = refl
zero_least (Some b) = ap Some (omega arith)

pub above_least : (a b : Option ℕ) → IsNotEnd a → IsNotEnd b → IsNotEnd (least a b)
above_least None b ha hb = hb
above_least (Some a) None ha hb = ha
above_least (Some a) (Some b) ha hb = omega (arith, ha, hb)

pub not_zero : (a : Option ℕ) → IsNotEnd a → a ≡ Some 0 → ⊥
not_zero None above is = cc
not_zero (Some a) above is = let e : a ≡ 0 = cc in omega (arith, above, e)

-- one listed number
until_in : (f n : ℕ) (fails : List ℕ) → n < f → f < 2 ^ 64 → until_listed (f ∷ fails) n ≡ least (Some (f - n - 1)) (until_listed fails n)
until_in f n fails lt small = grind (arith, nat_tests)

until_past : (f n : ℕ) (fails : List ℕ) → f ≤ n → until_listed (f ∷ fails) n ≡ until_listed fails n
until_past f n fails le = grind (arith, nat_tests)

until_large : (f n : ℕ) (fails : List ℕ) → 2 ^ 64 ≤ f → until_listed (f ∷ fails) n ≡ until_listed fails n
until_large f n fails le = grind (arith, nat_tests)

pub below_or : (a b : ℕ) → (a < b) ⊎ (b ≤ a)
below_or a b = go (nat_lt a b) refl
  where
    go : (t : Bool) → nat_lt a b ≡ t → (a < b) ⊎ (b ≤ a)
    go true is = inl (grind (arith, nat_tests))
    go false is = inr (grind (arith, nat_tests))

pub until_end : (n : ℕ) (fails : List ℕ) → 2 ^ 64 ≤ n + 1 → until_listed fails n ≡ None
until_end n [] le = refl
until_end n (f ∷ fails) le = elim (below_or n f) [
  | inl lt ↦ until_large f n fails (omega (arith, lt, le)) ∙ until_end n fails le
  | inr past ↦ until_past f n fails past ∙ until_end n fails le
]

-- where the next call is not listed, one call less is left before a listed one
pub record Passes (fails : List ℕ) (n : ℕ) : Type 0 where
  pub next : until_listed fails (n + 1) ≡ one_less (until_listed fails n)
  pub above : IsNotEnd (until_listed fails n)

pub passes : (fails : List ℕ) (n : ℕ) → list_any (λ y. nat_eq y (n + 1)) fails ≡ false → Passes fails n
passes [] n none = record { next = refl; above = tt }
passes (f ∷ fails) n none =
    let not_first : nat_eq f (n + 1) ≡ false = grind (arith, nat_tests) in
    let not_later : list_any (λ y. nat_eq y (n + 1)) fails ≡ false = grind (arith, nat_tests) in
    go not_first (passes fails n not_later)
  where
    go : nat_eq f (n + 1) ≡ false → Passes fails n → Passes (f ∷ fails) n
    go not_first rest = elim (below_or n f) [
      | inl lt ↦ elim (below_or f (2 ^ 64)) [
        | inl small ↦
            let ne : n + 1 < f = grind (arith, nat_tests) in
            record {
              next = until_in f (n + 1) fails ne small ∙ ap (least (Some (f - (n + 1) - 1))) rest.next ∙ ap (λ (k : ℕ). least (Some k) (one_less (until_listed fails n))) (omega arith)
                  ∙ sym (one_less-least (Some (f - n - 1)) (until_listed fails n)) ∙ ap one_less (sym (until_in f n fails lt small));
              above = rw (until_in f n fails lt small) (above_least (Some (f - n - 1)) (until_listed fails n) (omega (arith, ne)) rest.above);
            }
        | inr large ↦ record {
          next = until_large f (n + 1) fails large ∙ rest.next ∙ ap one_less (sym (until_large f n fails large));
          above = rw (until_large f n fails large) rest.above;
        }
      ]
      | inr past ↦ record {
        next = until_past f (n + 1) fails (omega (arith, past)) ∙ rest.next ∙ ap one_less (sym (until_past f n fails past));
        above = rw (until_past f n fails past) rest.above;
      }
    ]

pub meets : (fails : List ℕ) (n : ℕ) → n + 1 < 2 ^ 64 → list_any (λ y. nat_eq y (n + 1)) fails ≡ true → until_listed fails n ≡ Some 0
meets [] n small is = absurd (cc)
meets (f ∷ fails) n small is = elim (cases_eq f (n + 1)) [
  | inl here ↦
      until_in f n fails (omega (arith, here)) (omega (arith, here, small))
      ∙ ap (λ (k : ℕ). least (Some k) (until_listed fails n)) (omega (arith, here)) ∙ zero_least (until_listed fails n)
  | inr other ↦
      let later : list_any (λ y. nat_eq y (n + 1)) fails ≡ true = grind (arith, nat_tests) in
      let rest = meets fails n small later in
      elim (below_or n f) [
        | inl lt ↦ elim (below_or f (2 ^ 64)) [
          | inl low ↦ until_in f n fails lt low ∙ ap (least (Some (f - n - 1))) rest ∙ least_zero (Some (f - n - 1))
          | inr large ↦ until_large f n fails large ∙ rest
        ]
        | inr past ↦ until_past f n fails past ∙ rest
      ]
]

pub saturated : (fails : List ℕ) (n : ℕ) → 2 ^ 64 ≤ n + 1 → (until_listed fails n ≡ one_less (until_listed fails n)) × IsNotEnd (until_listed fails n)
saturated fails n le = let e = until_end n fails le in (e ∙ sym (ap one_less e), subst IsNotEnd (sym e) tt)

pub on_no : (fails : List ℕ) (n : ℕ) (r : Bool) → r ≡ list_any (λ y. nat_eq y (n + 1)) fails → OnFalse r ((until_listed fails (n + 1) ≡ one_less (until_listed fails n)) × IsNotEnd (until_listed fails n))
on_no fails n true is = tt
on_no fails n false is = let p = passes fails n (sym is) in (p.next, p.above)

pub on_yes : (fails : List ℕ) (n : ℕ) (r : Bool) → n + 1 < 2 ^ 64 → r ≡ list_any (λ y. nat_eq y (n + 1)) fails → OnTrue r (until_listed fails n ≡ Some 0)
on_yes fails n true small is = meets fails n small (sym is)
on_yes fails n false small is = tt
