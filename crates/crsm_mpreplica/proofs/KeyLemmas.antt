-- Numbers as keys of a map: how they compare, and where a key is found.
use Rattle.std.proofs.Common.{◌≡◌, ℕ, ◌<◌, Bool, true, false, List, [], ◌∷◌, Some, None, refl, ap, sym, subst, ◌∙◌, arith}
use Rattle.std.specs.Prelude.{◌==◌, nat_lt, cond, map, Option, if◌then◌else◌}
use Rattle.std.specs.List.{AllByRecursion}
use Rattle.std.specs.List.Sorted.{IsStrictlySortedBy}
use Rattle.std.specs.Map.{keys_of, lookup, set_value}
use Rattle.std.specs.BTreeMap.{is_at}
use Rattle.std.specs.Option.{option_map}
use Rattle.std.specs.Ordering.{nat_cmp}
use Rattle.std.specs.declared.cmp.Ordering.TheVariants.{Less, Equal, Greater}
use Rattle.std.proofs.lemmas.Bool.Decides.{nat_tests}
use Rattle.std.proofs.lemmas.Bool.{ltb-true, ltb-false}
use Rattle.crsm_fact_log.proofs.Lists.{all_more}

-- which of two numbers is the greater, and what tests say of it
pub data Compared (a b : ℕ) : Type 0 where
  Below : nat_cmp a b ≡ Less → nat_lt a b ≡ true → (a == b) ≡ false → Compared a b
  Same : a ≡ b → Compared a b
  Above : nat_cmp a b ≡ Greater → nat_lt a b ≡ false → (a == b) ≡ false → Compared a b

below_cmp : (a b : ℕ) → a < b → nat_cmp a b ≡ Less
below_cmp a b l = grind (arith, nat_tests, l)

above_cmp : (a b : ℕ) → b < a → nat_cmp a b ≡ Greater
above_cmp a b l = grind (arith, nat_tests, l)

below_differs : (a b : ℕ) → a < b → (a == b) ≡ false
below_differs a b l = grind (arith, nat_tests, l)

above_differs : (a b : ℕ) → b < a → (a == b) ≡ false
above_differs a b l = grind (arith, nat_tests, l)

pub compared : (a b : ℕ) → Compared a b
compared a b = by_tests (nat_lt a b) (nat_lt b a) refl refl
  where
    by_tests : (less more : Bool) → nat_lt a b ≡ less → nat_lt b a ≡ more → Compared a b
    by_tests true more l m = Below (below_cmp a b (ltb-true a b l)) l (below_differs a b (ltb-true a b l))
    by_tests false true l m = Above (above_cmp a b (ltb-true b a m)) l (above_differs a b (ltb-true b a m))
    by_tests false false l m = Same (omega (arith, ltb-false a b l, ltb-false b a m))

pub at-key : (q k : ℕ) → is_at (nat_cmp q) k ≡ (k == q)
at-key q k = grind (arith, nat_tests)

pub eqb-sym : (a b : ℕ) → (a == b) ≡ (b == a)
eqb-sym a b = grind (arith, nat_tests)

less-trans : (a b d : ℕ) → nat_cmp a b ≡ Less → nat_cmp b d ≡ Less → nat_cmp a d ≡ Less
less-trans a b d h k = grind (arith, nat_tests, h, k)

less-differs : (a b : ℕ) → nat_cmp a b ≡ Less → (a == b) ≡ false
less-differs a b h = grind (arith, nat_tests, h)

less-not_at : (a b : ℕ) → nat_cmp a b ≡ Less → is_at (nat_cmp a) b ≡ false
less-not_at a b h = rw (h) refl

no_some : {X : Type 0} (w : X) → None ≡ Some w → ⊥
no_some w e = cc

-- ---- where a key is found

-- a key below all others is not there
absent : {X : Type 0} (k : ℕ) (es : List (ℕ × X)) → AllByRecursion (λ q. nat_cmp k q ≡ Less) (keys_of es) → lookup (is_at (nat_cmp k)) es ≡ None
absent k [] all = refl
absent k (e ∷ es) all = rw (less-not_at k e.0 all.0) (absent k es all.1)

-- what is found among changed values
pub get-mapped : {X Y : Type 0} (test : ℕ → Bool) (g : X → Y) (es : List (ℕ × X)) → lookup test (map (λ (e : ℕ × X). (e.0, g e.1)) es) ≡ option_map g (lookup test es)
get-mapped test g [] = refl
get-mapped {X = X} {Y = Y} test g (e ∷ es) = by_test (test e.0) (lookup test es) (lookup test (map (λ (e : ℕ × X). (e.0, g e.1)) es)) (get-mapped test g es)
  where
    by_test : (b : Bool) (o : Option X) (p : Option Y) → p ≡ option_map g o → cond b (Some (g e.1)) p ≡ option_map g (cond b (Some e.1) o)
    by_test true o p is = refl
    by_test false o p is = is

-- ---- one value changed

-- the entries with f applied to the value at k
unfoldable pub change_at : {Y : Type 0} → (Y → Y) → ℕ → List (ℕ × Y) → List (ℕ × Y)
change_at {Y} f k es = map (λ (e : ℕ × Y). (e.0, if k == e.0 then f e.1 else e.1)) es

pub same_cmp : (a b : ℕ) → a ≡ b → nat_cmp a b ≡ Equal
same_cmp a b s = grind (arith, nat_tests, s)

pub same_eqb : (a b : ℕ) → a ≡ b → (a == b) ≡ true
same_eqb a b s = grind (arith, nat_tests, s)

pub same_at : (a b : ℕ) → a ≡ b → is_at (nat_cmp a) b ≡ true
same_at a b s = rw (same_cmp a b s) refl

pub one_some : {X : Type 0} (x y : X) → Some x ≡ Some y → x ≡ y
one_some x y e = cc

module _ {X Y : Type 0} (g : X → Y) (f : Y → Y) (k : ℕ) where
  unchanged : (es : List (ℕ × X)) → AllByRecursion (λ q. nat_cmp k q ≡ Less) (keys_of es) →
      map (λ (e : ℕ × X). (e.0, g e.1)) es ≡ change_at f k (map (λ (e : ℕ × X). (e.0, g e.1)) es)
  unfolding change_at
  unchanged [] all = refl
  unchanged (e ∷ es) all = rw (less-differs k e.0 all.0) (ap (λ (xs : List (ℕ × Y)). (e.0, g e.1) ∷ xs) (unchanged es all.1))

  -- a value that is written where there was one takes its place
  pub written : (es : List (ℕ × X)) (old new : X) → IsStrictlySortedBy nat_cmp (keys_of es) → lookup (is_at (nat_cmp k)) es ≡ Some old → g new ≡ f (g old) →
      map (λ (e : ℕ × X). (e.0, g e.1)) (set_value (is_at (nat_cmp k)) es new) ≡ change_at f k (map (λ (e : ℕ × X). (e.0, g e.1)) es)
  unfolding change_at IsStrictlySortedBy
  written [] old new sorted found is = absurd (no_some old found)
  written (e ∷ es) old new sorted found is = elim (compared k e.0) [
    | Below l _ n ↦
        let gone : lookup (is_at (nat_cmp k)) es ≡ Some old = subst (λ b. cond b (Some e.1) (lookup (is_at (nat_cmp k)) es) ≡ Some old) (less-not_at k e.0 l) found in
        let none = absent k es (all_more (λ q. nat_cmp e.0 q ≡ Less) (λ q. nat_cmp k q ≡ Less) (λ q. less-trans k e.0 q l) (keys_of es) sorted.0) in
        absurd (no_some old (sym none ∙ gone))
    | Same s ↦
        let here : Some e.1 ≡ Some old = subst (λ b. cond b (Some e.1) (lookup (is_at (nat_cmp k)) es) ≡ Some old) (same_at k e.0 s) found in
        rw (same_at k e.0 s, same_eqb k e.0 s)
        (ap (λ (y : Y). (e.0, y) ∷ map (λ (e : ℕ × X). (e.0, g e.1)) es) (is ∙ ap (λ (x : X). f (g x)) (sym (one_some e.1 old here)))
        ∙ ap (λ (ys : List (ℕ × Y)). (e.0, f (g e.1)) ∷ ys) (unchanged es (subst (λ j. AllByRecursion (λ q. nat_cmp j q ≡ Less) (keys_of es)) (sym s) sorted.0)))
    | Above l _ n ↦
        let off = at-key k e.0 ∙ eqb-sym e.0 k ∙ n in
        let further : lookup (is_at (nat_cmp k)) es ≡ Some old = subst (λ b. cond b (Some e.1) (lookup (is_at (nat_cmp k)) es) ≡ Some old) off found in
        rw (off, n) (ap (λ (xs : List (ℕ × Y)). (e.0, g e.1) ∷ xs) (written es old new sorted.1 further is))
  ]
