-- The first replicas are a set of members.
use Rattle.std.proofs.Common.{◌≡◌, ℕ, zero, suc, ◌+◌, ◌≤◌, List, sym, subst, arith}
use Rattle.std.specs.List.{range_with_len}
use Rattle.crsm_base.specs.Members.{IsMembers, RisesWithin}
use Rattle.crsm_spec.specs.Lists.{numbers_below}

range_rises : (low n high : ℕ) → low + n ≤ high → RisesWithin low high (range_with_len low n)
range_rises low zero high within = tt
range_rises low (suc n) high within = (omega arith, omega arith, range_rises (low + 1) n high (omega arith))

first_members : (n : ℕ) → 1 ≤ n → n ≤ 15 → IsMembers (range_with_len 0 n)
first_members zero some few = absurd (omega arith)
first_members (suc n) some few = range_rises 0 (suc n) 15 (omega arith)

pub founders_are_members : (n : ℕ) (ks : List ℕ) → 1 ≤ n → n ≤ 15 → ks ≡ numbers_below n → IsMembers ks
unfolding numbers_below
founders_are_members n ks some few is = subst IsMembers (sym is) (first_members n some few)
