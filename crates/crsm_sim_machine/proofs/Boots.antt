-- The output of a boot.
use Rattle.std.proofs.Common.{◌≡◌, ℕ, [], ◌∷◌, Bool, true, false, nat_lt, refl}
use Rattle.crsm_spec.specs.Choice.{when◌then◌otherwise◌}
use Rattle.crsm_spec.specs.Log.{Log}
use Rattle.crsm_spec.specs.Draft.{Draft, begun, keep}
use Rattle.crsm_spec.specs.Replica.{fresh}
use Rattle.crsm_spec.specs.Step.{boot, first_boot, founding_boot, boot_again}
use Rattle.crsm_sim_machine.specs.Outcomes.{IsQuiet}

again_quiet : (me n : ℕ) (log : Log) → IsQuiet (boot_again me n log)
unfolding boot_again keep begun
again_quiet me n log = record { excess = refl; sends = refl; replies = refl }

founding_quiet : (me n : ℕ) → IsQuiet (founding_boot me n)
unfolding founding_boot boot_again keep begun
founding_quiet me n = record { excess = refl; sends = refl; replies = refl }

-- it is of the same replica
pub record IsOf (me n : ℕ) (x : Draft) : Type 0 where
  pub number : x.replica.me ≡ me
  pub began : x.replica.n ≡ n

again_of : (me n : ℕ) (log : Log) → IsOf me n (boot_again me n log)
unfolding boot_again keep begun fresh
again_of me n log = record { number = refl; began = refl }

founding_of : (me n : ℕ) → IsOf me n (founding_boot me n)
unfolding founding_boot boot_again keep begun fresh
founding_of me n = record { number = refl; began = refl }

-- a boot is of the replica that boots
pub boot_of : (me n : ℕ) (log : Log) → IsOf me n (boot me n log)
unfolding boot first_boot when◌then◌otherwise◌
boot_of me n [] = go (nat_lt me n)
  where
    go : (b : Bool) → IsOf me n (when b then founding_boot me n otherwise boot_again me n [])
    go true = founding_of me n
    go false = again_of me n []
boot_of me n (rec ∷ log) = again_of me n (rec ∷ log)

-- a boot sends nothing
pub boot_quiet : (me n : ℕ) (log : Log) → IsQuiet (boot me n log)
unfolding boot first_boot when◌then◌otherwise◌
boot_quiet me n [] = go (nat_lt me n)
  where
    go : (b : Bool) → IsQuiet (when b then founding_boot me n otherwise boot_again me n [])
    go true = founding_quiet me n
    go false = again_quiet me n []
boot_quiet me n (rec ∷ log) = again_quiet me n (rec ∷ log)
