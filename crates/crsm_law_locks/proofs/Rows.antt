-- The value of a key in rows after a key was set or removed.
use Rattle.std.proofs.Common.{◌≡◌, ℕ, Bool, true, false, List, [], ◌∷◌, Option, Some, None, refl, ap, sym, ◌∙◌}
use Rattle.std.specs.Prelude.{bytes_eq, if◌then◌else◌}
use Rattle.std.specs.Option.{option_eq}
use Rattle.std.proofs.lemmas.Slice.Eq.{bytes_eq-Decides}
use Rattle.crsm_base.specs.Store.{bytes_lt, value_at, with_key, without_key}

pub bytes_eq-self : (key : List ℕ) → bytes_eq key key ≡ true
bytes_eq-self key = (bytes_eq-Decides key key).1 refl

pub bytes_eq-other : (a b : List ℕ) → (a ≡ b → ⊥) → bytes_eq a b ≡ false
bytes_eq-other a b other = go (bytes_eq a b) refl
  where
    go : (same : Bool) → bytes_eq a b ≡ same → bytes_eq a b ≡ false
    go true e = absurd (other ((bytes_eq-Decides a b).0 e))
    go false e = e

pub option_eq-true : (a b : Option (List ℕ)) → option_eq bytes_eq a b ≡ true → a ≡ b
option_eq-true None None e = refl
option_eq-true None (Some y) e = absurd cc
option_eq-true (Some x) None e = absurd cc
option_eq-true (Some x) (Some y) e = ap Some ((bytes_eq-Decides x y).0 e)

-- by the test of the first row
value_at-first : (key : List ℕ) (row : List ℕ × List ℕ) (rows : List (List ℕ × List ℕ)) (same : Bool) → bytes_eq row.0 key ≡ same
    → value_at key (row ∷ rows) ≡ (if same then Some row.1 else value_at key rows)
unfolding value_at
value_at-first key row rows same e = ap (λ (b : Bool). if b then Some row.1 else value_at key rows) e

-- the same behind one row more
value_at-behind : (key : List ℕ) (row : List ℕ × List ℕ) (xs ys : List (List ℕ × List ℕ)) → value_at key xs ≡ value_at key ys
    → value_at key (row ∷ xs) ≡ value_at key (row ∷ ys)
unfolding value_at
value_at-behind key row xs ys e = ap (λ (v : Option (List ℕ)). if bytes_eq row.0 key then Some row.1 else v) e

-- ---- a key that is set

pub value_at-with_key : (key value : List ℕ) (rows : List (List ℕ × List ℕ)) → value_at key (with_key key value rows) ≡ Some value
unfolding with_key
value_at-with_key key value [] = value_at-first key (key, value) [] true (bytes_eq-self key)
value_at-with_key key value (row ∷ rows) = go (value_at-with_key key value rows) (bytes_eq row.0 key) (bytes_lt key row.0) refl
  where
    go : value_at key (with_key key value rows) ≡ Some value → (same less : Bool) → bytes_eq row.0 key ≡ same
        → value_at key (if same then (key, value) ∷ rows else (if less then (key, value) ∷ row ∷ rows else row ∷ with_key key value rows)) ≡ Some value
    go behind true less e = value_at-first key (key, value) rows true (bytes_eq-self key)
    go behind false true e = value_at-first key (key, value) (row ∷ rows) true (bytes_eq-self key)
    go behind false false e = value_at-first key row (with_key key value rows) false e ∙ behind

-- a row of a key is none of another's
other_row : (key other : List ℕ) (row : List ℕ × List ℕ) → (key ≡ other → ⊥) → bytes_eq row.0 key ≡ true → bytes_eq row.0 other ≡ false
other_row key other row differ e = bytes_eq-other row.0 other (λ same. differ (sym ((bytes_eq-Decides row.0 key).0 e) ∙ same))

pub value_at-with_key-other : (key other value : List ℕ) (rows : List (List ℕ × List ℕ)) → (key ≡ other → ⊥) → value_at other (with_key key value rows) ≡ value_at other rows
unfolding with_key
value_at-with_key-other key other value [] differ = value_at-first other (key, value) [] false (bytes_eq-other key other differ)
value_at-with_key-other key other value (row ∷ rows) differ = go (value_at-with_key-other key other value rows differ) (bytes_eq row.0 key) (bytes_lt key row.0) refl
  where
    new : (xs : List (List ℕ × List ℕ)) → value_at other ((key, value) ∷ xs) ≡ value_at other xs
    new xs = value_at-first other (key, value) xs false (bytes_eq-other key other differ)

    go : value_at other (with_key key value rows) ≡ value_at other rows → (same less : Bool) → bytes_eq row.0 key ≡ same
        → value_at other (if same then (key, value) ∷ rows else (if less then (key, value) ∷ row ∷ rows else row ∷ with_key key value rows)) ≡ value_at other (row ∷ rows)
    go behind true less e = new rows ∙ sym (value_at-first other row rows false (other_row key other row differ e))
    go behind false true e = new (row ∷ rows)
    go behind false false e = value_at-behind other row (with_key key value rows) rows behind

-- ---- a key that is removed

pub value_at-without_key-other : (key other : List ℕ) (rows : List (List ℕ × List ℕ)) → (key ≡ other → ⊥) → value_at other (without_key key rows) ≡ value_at other rows
unfolding without_key
value_at-without_key-other key other [] differ = refl
value_at-without_key-other key other (row ∷ rows) differ = go (value_at-without_key-other key other rows differ) (bytes_eq row.0 key) refl
  where
    go : value_at other (without_key key rows) ≡ value_at other rows → (same : Bool) → bytes_eq row.0 key ≡ same → value_at other (if same then rows else row ∷ without_key key rows) ≡ value_at other (row ∷ rows)
    go behind true e = sym (value_at-first other row rows false (other_row key other row differ e))
    go behind false e = value_at-behind other row (without_key key rows) rows behind
