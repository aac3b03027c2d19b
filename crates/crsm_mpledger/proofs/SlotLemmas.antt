-- Entries by slot, as a map holds them.
use Rattle.std.proofs.Common.{◌≡◌, ℕ, ◌<◌, Bool, true, false, List, [], ◌∷◌, Some, refl, ap, ◌∙◌, arith}
use Rattle.std.specs.Prelude.{◌==◌, ◌&&◌, nat_lt, nat_le, filter, if◌then◌else◌}
use Rattle.std.specs.Ordering.{nat_cmp, is_le}
use Rattle.std.specs.declared.cmp.Ordering.TheVariants.{Less, Equal, Greater}
use Rattle.std.specs.Map.{lookup}
use Rattle.std.specs.BTreeMap.{insert_entry, is_at}
use Rattle.std.proofs.lemmas.Bool.Decides.{nat_tests}
use Rattle.std.proofs.lemmas.Bool.{ltb-true, ltb-false}
use Rattle.std.proofs.Math.Path.{fun_ext}
use Rattle.crsm_mpspec.specs.declared.accepts.MpAccepted.{MpAccepted}
use Rattle.crsm_mpspec.specs.declared.choices.MpChosen.{MpChosen}
use Rattle.crsm_mpspec.specs.Types.{Ballot, Value}
use Rattle.crsm_mpspec.specs.Log.{at_slot, by_slot, from_slot}

-- which of two numbers is the greater, and what tests say of it
pub data Compared (a b : ℕ) : Type 0 where
  Below : nat_cmp a b ≡ Less → (a == b) ≡ false → Compared a b
  Same : a ≡ b → Compared a b
  Above : nat_cmp a b ≡ Greater → (a == b) ≡ false → Compared a b

pub below_cmp : (a b : ℕ) → a < b → nat_cmp a b ≡ Less
below_cmp a b l = grind (arith, nat_tests, l)

pub above_cmp : (a b : ℕ) → b < a → nat_cmp a b ≡ Greater
above_cmp a b l = grind (arith, nat_tests, l)

below_differs : (a b : ℕ) → a < b → (a == b) ≡ false
below_differs a b l = grind (arith, nat_tests, l)

above_differs : (a b : ℕ) → b < a → (a == b) ≡ false
above_differs a b l = grind (arith, nat_tests, l)

pub same_cmp : (a : ℕ) → nat_cmp a a ≡ Equal
same_cmp a = grind (arith, nat_tests)

pub compared : (a b : ℕ) → Compared a b
compared a b = by_tests (nat_lt a b) (nat_lt b a) refl refl
  where
    by_tests : (less more : Bool) → nat_lt a b ≡ less → nat_lt b a ≡ more → Compared a b
    by_tests true more l m = Below (below_cmp a b (ltb-true a b l)) (below_differs a b (ltb-true a b l))
    by_tests false true l m = Above (above_cmp a b (ltb-true b a m)) (above_differs a b (ltb-true b a m))
    by_tests false false l m = Same (omega (arith, ltb-false a b l, ltb-false b a m))

-- ---- the entries of a map

is_at-cmp : (q k : ℕ) → is_at (nat_cmp q) k ≡ (k == q)
is_at-cmp q k = grind (arith, nat_tests)

eqb-sym : (a b : ℕ) → (a == b) ≡ (b == a)
eqb-sym a b = grind (arith, nat_tests)

-- no number is two others
two_apart : {X : Type 0} (q k j : ℕ) (t u : Bool) (x y z : X) → (k == q) ≡ t → (j == q) ≡ u → (k == j) ≡ false
    → (if u then y else (if t then x else z)) ≡ (if t then x else (if u then y else z))
two_apart q k j true true x y z a b n = absurd (grind (arith, nat_tests, a, b, n))
two_apart q k j true false x y z a b n = refl
two_apart q k j false true x y z a b n = refl
two_apart q k j false false x y z a b n = refl

over_same : {X : Type 0} (t : Bool) (x y z : X) → (if t then x else z) ≡ (if t then x else (if t then y else z))
over_same true x y z = refl
over_same false x y z = refl

-- what is found behind an insertion
pub lookup-insert_entry : {X : Type 0} (q k : ℕ) (v : X) (es : List (ℕ × X)) →
    lookup (λ s. s == q) (insert_entry nat_cmp es k v) ≡ (if k == q then Some v else lookup (λ s. s == q) es)
lookup-insert_entry q k v [] = refl
lookup-insert_entry {X = X} q k v (e ∷ es) = elim (compared k e.0) [
  | Below l n ↦ rw (l) refl
  | Same s ↦ rw (s, same_cmp e.0) (over_same (e.0 == q) (Some v) (Some e.1) (lookup (λ s. s == q) es))
  | Above l n ↦ rw (l, lookup-insert_entry q k v es) (two_apart q k e.0 (k == q) (e.0 == q) (Some v) (Some e.1) (lookup (λ s. s == q) es) refl refl n)
]

lookup-by_slot : {X : Type 0} (q : ℕ) (xs : List (ℕ × X)) → lookup (λ s. s == q) (by_slot xs) ≡ at_slot q xs
unfolding by_slot at_slot
lookup-by_slot q [] = refl
lookup-by_slot q (x ∷ xs) = lookup-insert_entry q x.0 x.1 (by_slot xs) ∙ ap (λ o. if x.0 == q then Some x.1 else o) (lookup-by_slot q xs)

lookup-test : {X : Type 0} (t u : ℕ → Bool) → ((k : ℕ) → t k ≡ u k) → (es : List (ℕ × X)) → lookup t es ≡ lookup u es
lookup-test t u same [] = refl
lookup-test t u same (e ∷ es) = rw (same e.0, lookup-test t u same es) refl

-- a map's value at a slot is what stands first at it
pub get-by_slot : {X : Type 0} (q : ℕ) (xs : List (ℕ × X)) → lookup (is_at (nat_cmp q)) (by_slot xs) ≡ at_slot q xs
get-by_slot q xs = lookup-test (is_at (nat_cmp q)) (λ s. s == q) (is_at-cmp q) (by_slot xs) ∙ lookup-by_slot q xs

-- ---- parts of a map

from-cmp : (a b : ℕ) → (is_le (nat_cmp a b) && true) ≡ nat_le a b
from-cmp a b = grind (arith, nat_tests)

-- the entries from a slot on
pub entries-from_slot : {X : Type 0} (start : ℕ) (es : List (ℕ × X)) → filter (λ e. is_le (nat_cmp start e.0) && true) es ≡ from_slot start es
unfolding from_slot
entries-from_slot {X = X} start es = ap (λ (test : ℕ × X → Bool). filter test es) (fun_ext (λ e. from-cmp start e.0))

-- what is reported of an accepted value
abbrev pub accepted_of : ℕ × (Ballot × Value) → MpAccepted
accepted_of x = record { slot = x.0; ballot = x.1.0; value = x.1.1 }

-- and of a chosen one
abbrev pub chosen_of : ℕ × Value → MpChosen
chosen_of x = record { slot = x.0; value = x.1 }
