-- Lists by slot, with one more entry at the end.
use Rattle.std.proofs.Common.{◌≡◌, ℕ, ◌<◌, Bool, true, false, List, [], ◌∷◌, ◌++◌, Some, refl, ap, sym, ◌∙◌, arith}
use Rattle.std.specs.Prelude.{cond, nat_lt, is_some}
use Rattle.std.specs.Ordering.{nat_cmp}
use Rattle.std.specs.declared.cmp.Ordering.TheVariants.{Less, Equal, Greater}
use Rattle.std.specs.Map.{lookup}
use Rattle.std.specs.BTreeMap.{insert_entry, is_at}
use Rattle.std.proofs.lemmas.Bool.Decides.{nat_tests}
use Rattle.std.proofs.lemmas.Bool.{ltb-true, ltb-false}
use Rattle.crsm_mpspec.specs.Log.{by_slot}

-- which of two numbers is the greater
pub data Ranked (a b : ℕ) : Type 0 where
  Below : a < b → nat_cmp a b ≡ Less → Ranked a b
  Same : a ≡ b → Ranked a b
  Above : b < a → nat_cmp a b ≡ Greater → Ranked a b

pub below_cmp : (a b : ℕ) → a < b → nat_cmp a b ≡ Less
below_cmp a b l = grind (arith, nat_tests, l)

pub above_cmp : (a b : ℕ) → b < a → nat_cmp a b ≡ Greater
above_cmp a b l = grind (arith, nat_tests, l)

pub same_cmp : (a : ℕ) → nat_cmp a a ≡ Equal
same_cmp a = grind (arith, nat_tests)

pub ranked : (a b : ℕ) → Ranked a b
ranked a b = by_tests (nat_lt a b) (nat_lt b a) refl refl
  where
    by_tests : (less more : Bool) → nat_lt a b ≡ less → nat_lt b a ≡ more → Ranked a b
    by_tests true more l m = Below (ltb-true a b l) (below_cmp a b (ltb-true a b l))
    by_tests false true l m = Above (ltb-true b a m) (above_cmp a b (ltb-true b a m))
    by_tests false false l m = Same (omega (arith, ltb-false a b l, ltb-false b a m))

is_at-itself : (k : ℕ) → is_at (nat_cmp k) k ≡ true
is_at-itself k = grind (arith, nat_tests)

is_at-other : (q k : ℕ) → q < k → is_at (nat_cmp q) k ≡ false
is_at-other q k l = grind (arith, nat_tests, l)

is_at-less : (q k : ℕ) → k < q → is_at (nat_cmp q) k ≡ false
is_at-less q k l = grind (arith, nat_tests, l)

module _ {A : Type 0} where
  -- the later of two values at one key counts
  insert-again : (es : List (ℕ × A)) (k : ℕ) (v w : A) → insert_entry nat_cmp (insert_entry nat_cmp es k v) k w ≡ insert_entry nat_cmp es k w
  insert-again [] k v w = simp (same_cmp k)
  insert-again (e ∷ es) k v w = elim (ranked k e.0) [
    | Below l r ↦ simp (r, same_cmp k)
    | Same s ↦ simp (s, same_cmp e.0)
    | Above l r ↦ simp (r) (ap (λ (xs : List (ℕ × A)). e ∷ xs) (insert-again es k v w))
  ]

  -- of two keys it does not matter which one comes first
  insert-commutes : (es : List (ℕ × A)) (j k : ℕ) (v w : A) → j < k
      → insert_entry nat_cmp (insert_entry nat_cmp es j v) k w ≡ insert_entry nat_cmp (insert_entry nat_cmp es k w) j v
  insert-commutes [] j k v w l = simp (above_cmp k j l, below_cmp j k l)
  insert-commutes (e ∷ es) j k v w l = elim (ranked j e.0) [
    | Below jl jr ↦ elim (ranked k e.0) [
      | Below kl kr ↦ simp (jr, kr, above_cmp k j l, below_cmp j k l)
      | Same s ↦
          let more : j < e.0 = omega arith in
          simp (s, jr, same_cmp e.0, above_cmp e.0 j more)
      | Above kl kr ↦ simp (jr, kr, above_cmp k j l)
    ]
    | Same s ↦
        let more : e.0 < k = omega arith in
        simp (s, same_cmp e.0, above_cmp k e.0 more)
    | Above jl jr ↦
        let more : e.0 < k = omega arith in
        simp (jr, above_cmp k e.0 more) (ap (λ (xs : List (ℕ × A)). e ∷ xs) (insert-commutes es j k v w l))
  ]

  -- what is found behind an insertion
  lookup-inserted : (q k : ℕ) (v : A) (es : List (ℕ × A))
      → lookup (is_at (nat_cmp q)) (insert_entry nat_cmp es k v) ≡ cond (is_at (nat_cmp q) k) (Some v) (lookup (is_at (nat_cmp q)) es)
  lookup-inserted q k v [] = refl
  lookup-inserted q k v (e ∷ es) = elim (ranked k e.0) [
    | Below l r ↦ rw (r) refl
    | Same s ↦ rw (s, same_cmp e.0) (over_same (is_at (nat_cmp q) e.0))
    | Above l r ↦ rw (r, lookup-inserted q k v es) (apart l (ranked q k))
  ]
    where
      over_same : (t : Bool) → cond t (Some v) (lookup (is_at (nat_cmp q)) es) ≡ cond t (Some v) (cond t (Some e.1) (lookup (is_at (nat_cmp q)) es))
      over_same true = refl
      over_same false = refl

      apart : e.0 < k → Ranked q k
          → cond (is_at (nat_cmp q) e.0) (Some e.1) (cond (is_at (nat_cmp q) k) (Some v) (lookup (is_at (nat_cmp q)) es))
          ≡ cond (is_at (nat_cmp q) k) (Some v) (cond (is_at (nat_cmp q) e.0) (Some e.1) (lookup (is_at (nat_cmp q)) es))
      apart l (Below b r) = rw (is_at-other q k b) refl
      apart l (Same s) =
          let less : e.0 < q = omega arith in rw (s, is_at-itself k, is_at-less k e.0 l) refl
      apart l (Above b r) = rw (is_at-less q k b) refl

  -- the entries, with one more where there is none at its key
  abbrev pub and_entry : List (ℕ × A) → ℕ × A → List (ℕ × A)
  and_entry es x = cond (is_some (lookup (is_at (nat_cmp x.0)) es)) es (insert_entry nat_cmp es x.0 x.1)

  insert-and : (es : List (ℕ × A)) (y x : ℕ × A) (b : Bool) → is_some (lookup (is_at (nat_cmp x.0)) es) ≡ b
      → insert_entry nat_cmp (cond b es (insert_entry nat_cmp es x.0 x.1)) y.0 y.1 ≡ and_entry (insert_entry nat_cmp es y.0 y.1) x
  insert-and es y x b is = rw (lookup-inserted x.0 y.0 y.1 es) (by_rank (ranked x.0 y.0) b is)
    where
      by_rank : Ranked x.0 y.0 → (b : Bool) → is_some (lookup (is_at (nat_cmp x.0)) es) ≡ b
          → insert_entry nat_cmp (cond b es (insert_entry nat_cmp es x.0 x.1)) y.0 y.1
          ≡ cond (is_some (cond (is_at (nat_cmp x.0) y.0) (Some y.1) (lookup (is_at (nat_cmp x.0)) es))) (insert_entry nat_cmp es y.0 y.1) (insert_entry nat_cmp (insert_entry nat_cmp es y.0 y.1) x.0 x.1)
      by_rank (Below l r) true is = rw (is_at-other x.0 y.0 l, is) refl
      by_rank (Below l r) false is = rw (is_at-other x.0 y.0 l, is) (insert-commutes es x.0 y.0 x.1 y.1 l)
      by_rank (Same s) true is = rw (s, is_at-itself y.0) refl
      by_rank (Same s) false is = rw (s, is_at-itself y.0) (insert-again es y.0 x.1 y.1)
      by_rank (Above l r) true is = rw (is_at-less x.0 y.0 l, is) refl
      by_rank (Above l r) false is = rw (is_at-less x.0 y.0 l, is) (sym (insert-commutes es y.0 x.0 y.1 x.1 l))

  -- of two entries at a slot the first one counts
  pub by_slot-push : (xs : List (ℕ × A)) (x : ℕ × A) → by_slot (xs ++ x ∷ []) ≡ and_entry (by_slot xs) x
  unfolding by_slot
  by_slot-push [] x = refl
  by_slot-push (y ∷ ys) x =
      ap (λ (es : List (ℕ × A)). insert_entry nat_cmp es y.0 y.1) (by_slot-push ys x) ∙ insert-and (by_slot ys) y x (is_some (lookup (is_at (nat_cmp x.0)) (by_slot ys))) refl
