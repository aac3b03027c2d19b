-- Laws of the rule by which times are issued.
use Rattle.std.proofs.Common.{◌≡◌, ℕ, ◌+◌, ◌<◌, Bool, true, false, refl, arith, List, [], ◌∷◌, None, Some, zero, suc}
use Rattle.std.specs.Prelude.{◌==◌, max, cond}
use Rattle.std.specs.Option.{option_map_or}
use Rattle.std.specs.List.Sorted.{IsStrictlyIncreasing}
use Rattle.std.proofs.lemmas.Bool.Decides.{nat_tests}
use Rattle.crsm_spec.specs.Clock.{issue, u64_max}
use Rattle.crsm_clock.specs.Issues.{issued_from}

pub issue_spent : (last reading : ℕ) → last ≡ u64_max → issue last reading ≡ None
unfolding issue
issue_spent last reading e = rw e refl

pub issue_next : (last reading : ℕ) → last < u64_max → issue last reading ≡ Some (max reading (last + 1))
unfolding issue
issue_next last reading below = let e : (last == u64_max) ≡ false = grind (arith, nat_tests) in rw e refl

-- one more number in front
more : (x y : ℕ) (ys : List ℕ) → x < y → IsStrictlyIncreasing (y ∷ ys) → IsStrictlyIncreasing (x ∷ y ∷ ys)
more x y ys above rises zero within = above
more x y ys above rises (suc k) within = let e : suc k + 1 ≡ suc (k + 1) = omega arith in rw e (rises k (omega arith))

one : (x : ℕ) → IsStrictlyIncreasing (x ∷ [])
one x k within = absurd (omega arith)

tail : (x : ℕ) (xs : List ℕ) → IsStrictlyIncreasing (x ∷ xs) → IsStrictlyIncreasing xs
tail x xs rises k within = let e : suc k + 1 ≡ suc (k + 1) = omega arith in rw e at (rises (suc k) (omega arith))

greater : (last reading : ℕ) → last < max reading (last + 1)
greater last reading = omega arith

-- the issued times rise from the last one on
rises_on : (last : ℕ) (readings : List ℕ) → IsStrictlyIncreasing (last ∷ issued_from last readings)
unfolding issued_from issue
rises_on last [] = one last
rises_on last (reading ∷ readings) = go (last == u64_max) (rises_on (max reading (last + 1)) readings)
  where
    go : (b : Bool) → IsStrictlyIncreasing (max reading (last + 1) ∷ issued_from (max reading (last + 1)) readings) →
        IsStrictlyIncreasing (last ∷ option_map_or (λ time. time ∷ issued_from time readings) (cond b None (Some (max reading (last + 1)))) [])
    go true later = one last
    go false later = more last (max reading (last + 1)) _ (greater last reading) later

pub rises : (last : ℕ) (readings : List ℕ) → IsStrictlyIncreasing (issued_from last readings)
rises last readings = tail last (issued_from last readings) (rises_on last readings)
