-- Two majorities of one Spec share a replica.
use Rattle.std.proofs.Common.{◌≡◌, ℕ, ◌+◌, ◌<◌, ◌≤◌, Bool, true, false, nat_eq, List, [], ◌∷◌, ◌++◌, length, arith, inl, inr, refl, subst, length-append}
use Rattle.std.specs.List.{IsDistinct, Contains, list_any}
use Rattle.std.proofs.lemmas.Cmp.{nat_eq_equiv}
use Rattle.std.proofs.lemmas.Bool.Decides.{nat_tests}
use Rattle.std.proofs.lemmas.Map.Made.{length-le_from_is_member}
use Rattle.std.proofs.lemmas.Map.Keys.{IsDistinct-head, IsDistinct-tail, IsDistinct-push}
use Rattle.std.proofs.lemmas.Map.Views.{list_any-from_Contains, Contains-from_any}
use Rattle.std.proofs.lemmas.List.Elements.{Contains-push_cases, Contains-append_right, All-contains, All-from_recursion}
use Rattle.crsm_spec.specs.Paxos.{IsMajority}

pub nat_eq_is : (x y : ℕ) → nat_eq x y ≡ true → x ≡ y
nat_eq_is x y h = grind (arith, nat_tests)

pub nat_eq_itself : (x : ℕ) → nat_eq x x ≡ true
nat_eq_itself x = grind (arith, nat_tests)

-- distinct replicas of the Spec are no more than the Spec
at_most : (spec xs : List ℕ) → IsDistinct nat_eq xs → ((r : ℕ) → Contains xs r → Contains spec r) → length xs ≤ length spec
at_most spec xs d sub =
    length-le_from_is_member nat_eq_equiv xs spec d
    (λ q h. list_any-from_Contains nat_eq_equiv q spec (sub q (Contains-from_any nat_eq_is q xs h)))

-- a distinct list has its head nowhere else
head_only : (x : ℕ) (xs : List ℕ) (r : ℕ) → IsDistinct nat_eq (x ∷ xs) → Contains xs r → x ≡ r → ⊥
head_only x xs r d c e =
    let apart : nat_eq x r ≡ false =
    All-contains (λ y. nat_eq x y ≡ false) xs r (All-from_recursion (λ y. nat_eq x y ≡ false) xs (IsDistinct-head nat_eq x xs d)) c in
    grind (arith, nat_tests)

-- distinct replicas of the Spec that are together more than the Spec share one
pub shared : (spec xs ys : List ℕ) → IsDistinct nat_eq xs → IsDistinct nat_eq ys →
    ((r : ℕ) → Contains xs r → Contains spec r) → ((r : ℕ) → Contains ys r → Contains spec r) →
    length spec < length xs + length ys → (r : ℕ) × Contains xs r × Contains ys r
shared spec [] ys dx dy sx sy more =
    let few : length ys ≤ length spec = at_most spec ys dy sy in
    absurd (omega arith)
shared spec (x ∷ xs) ys dx dy sx sy more =
    go (list_any (nat_eq x) ys) refl
    (λ d. shared spec xs (ys ++ x ∷ []) (IsDistinct-tail nat_eq x xs dx) d
    (λ r c. sx r (Contains-append_right (x ∷ []) xs r c))
    (λ r c. elim (Contains-push_cases ys x r c) [
      | inl k ↦ sy r k
      | inr e ↦ subst (λ q. Contains spec q) e (sx x (0, omega arith, refl))
    ])
    (omega (arith, length-append ys (x ∷ []))))
  where
    go : (b : Bool) → list_any (nat_eq x) ys ≡ b →
        (IsDistinct nat_eq (ys ++ x ∷ []) → (r : ℕ) × Contains xs r × Contains (ys ++ x ∷ []) r) →
        (r : ℕ) × Contains (x ∷ xs) r × Contains ys r
    go true e rest = (x, (0, omega arith, refl), Contains-from_any nat_eq_is x ys e)
    go false e rest =
        let (r, in_xs, in_more) = rest (IsDistinct-push nat_eq_equiv ys x dy e) in (
          r,
          Contains-append_right (x ∷ []) xs r in_xs,
          elim (Contains-push_cases ys x r in_more) [
            | inl k ↦ k
            | inr same ↦ absurd (head_only x xs r dx in_xs same)
          ],
        )

pub majorities_share : (spec xs ys : List ℕ) → IsMajority spec xs → IsMajority spec ys → (r : ℕ) × Contains xs r × Contains ys r
majorities_share spec xs ys mx my =
    shared spec xs ys mx.distinct my.distinct mx.of_spec my.of_spec (let a = mx.enough in let b = my.enough in omega arith)

-- a majority has a replica
pub majority_has : (spec xs : List ℕ) → IsMajority spec xs → (r : ℕ) × Contains xs r
majority_has spec xs m = let (r, here, there) = majorities_share spec xs xs m m in (r, here)
