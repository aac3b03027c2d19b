-- The numbers below n without one: how many they are, and the first of them.
use Rattle.std.proofs.Common.{◌≡◌, ℕ, zero, suc, ◌+◌, ◌<◌, ◌≤◌, Bool, true, false, List, ◌∷◌, length, take, refl, ap, arith}
use Rattle.std.specs.Prelude.{◌==◌, not, filter, min}
use Rattle.std.specs.List.{range_with_len}
use Rattle.std.proofs.lemmas.Bool.Decides.{nat_tests}
use Rattle.std.proofs.lemmas.List.FromFn.{length-range_with_len}
use Rattle.crsm_spec.specs.Lists.{numbers_below}
use Rattle.crsm_mpspec.specs.Sends.{others_below}

-- the n numbers from a on, without me
abbrev others_from : ℕ → ℕ → ℕ → List ℕ
others_from me a n = filter (λ k. not (k == me)) (range_with_len a n)

past : (me a n : ℕ) → me < a → others_from me a n ≡ range_with_len a n
past me a zero above = refl
past me a (suc n) above =
    let other : (a == me) ≡ false = grind (arith, nat_tests, above) in
    rw (other, past me (a + 1) n (omega arith)) refl

-- ---- how many

length-from : (me a n : ℕ) → a ≤ me → me < a + n → suc (length (others_from me a n)) ≡ n
length-from me a zero from below = absurd (omega arith)
length-from me a (suc n) from below = go (a == me) refl (λ less. length-from me (a + 1) n (omega arith) (omega arith))
  where
    go : (t : Bool) → (a == me) ≡ t → (a < me → suc (length (others_from me (a + 1) n)) ≡ n) → suc (length (others_from me a (suc n))) ≡ suc n
    go true is further =
        let same : a ≡ me = grind (arith, nat_tests, is) in
        rw (is, past me (a + 1) n (omega arith), length-range_with_len) refl
    go false is further =
        let less : a < me = grind (arith, nat_tests, is, from) in
        rw is (ap suc (further less))

length-before : (me a n : ℕ) → a + n ≤ me → length (others_from me a n) ≡ n
length-before me a zero before = refl
length-before me a (suc n) before =
    let other : (a == me) ≡ false = grind (arith, nat_tests, before) in
    rw other (ap suc (length-before me (a + 1) n (omega arith)))

pub length-others : (me n : ℕ) → me < n → suc (length (others_below me n)) ≡ n
unfolding numbers_below
length-others me n below = length-from me 0 n (omega arith) (omega arith)

pub length-others_all : (me n : ℕ) → n ≤ me → length (others_below me n) ≡ n
unfolding numbers_below
length-others_all me n above = length-before me 0 n (omega arith)

-- ---- the first

take-range : (a n c e : ℕ) → e ≡ min c n → take c (range_with_len a n) ≡ range_with_len a e
take-range a n zero zero is = refl
take-range a zero (suc c) zero is = refl
take-range a (suc n) (suc c) (suc e) is = ap (λ (ks : List ℕ). a ∷ ks) (take-range (a + 1) n c e (omega arith))
take-range a n zero (suc e) is = absurd (omega arith)
take-range a zero (suc c) (suc e) is = absurd (omega arith)
take-range a (suc n) (suc c) zero is = absurd (omega arith)

-- up to me
take-before : (me a n c e : ℕ) → a + c ≤ me → e ≡ min c n → take c (others_from me a n) ≡ others_from me a e
take-before me a n zero zero before is = refl
take-before me a zero (suc c) zero before is = refl
take-before me a (suc n) (suc c) (suc e) before is =
    let other : (a == me) ≡ false = grind (arith, nat_tests, before) in
    rw other (ap (λ (ks : List ℕ). a ∷ ks) (take-before me (a + 1) n c e (omega arith) (omega arith)))
take-before me a n zero (suc e) before is = absurd (omega arith)
take-before me a zero (suc c) (suc e) before is = absurd (omega arith)
take-before me a (suc n) (suc c) zero before is = absurd (omega arith)

-- beyond me
take-beyond : (me a n c e : ℕ) → a ≤ me → me < a + c → e ≡ min (c + 1) n → take c (others_from me a n) ≡ others_from me a e
take-beyond me a n zero e from beyond is = absurd (omega arith)
take-beyond me a zero (suc c) zero from beyond is = refl
take-beyond me a zero (suc c) (suc e) from beyond is = absurd (omega arith)
take-beyond me a (suc n) (suc c) zero from beyond is = absurd (omega arith)
take-beyond me a (suc n) (suc c) (suc e) from beyond is =
    go (a == me) refl (λ less. take-beyond me (a + 1) n c e (omega arith) (omega arith) (omega arith))
  where
    go : (t : Bool) → (a == me) ≡ t → (a < me → take c (others_from me (a + 1) n) ≡ others_from me (a + 1) e)
        → take (suc c) (others_from me a (suc n)) ≡ others_from me a (suc e)
    go true at_me further =
        let same : a ≡ me = grind (arith, nat_tests, at_me) in
        rw (at_me, past me (a + 1) n (omega arith), past me (a + 1) e (omega arith)) (take-range (a + 1) n (suc c) e (omega arith))
    go false not_me further =
        let less : a < me = grind (arith, nat_tests, not_me, from) in
        rw not_me (ap (λ (ks : List ℕ). a ∷ ks) (further less))

pub take-others_before : (me n c e : ℕ) → c ≤ me → e ≡ min c n → take c (others_below me n) ≡ others_below me e
unfolding numbers_below
take-others_before me n c e before is = take-before me 0 n c e (omega arith) is

pub take-others_beyond : (me n c e : ℕ) → me < c → e ≡ min (c + 1) n → take c (others_below me n) ≡ others_below me e
unfolding numbers_below
take-others_beyond me n c e beyond is = take-beyond me 0 n c e (omega arith) (omega arith) is
