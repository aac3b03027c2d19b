-- The steps after one more turn.
use Rattle.std.proofs.Common.{◌≡◌, ℕ, List, [], ◌∷◌, ◌++◌, refl, ap}
use Rattle.crsm_spec.specs.Log.{Log}
use Rattle.crsm_spec.specs.Replica.{Replica}
use Rattle.crsm_spec.specs.Draft.{Draft}
use Rattle.crsm_spec.specs.Step.{boot}
use Rattle.crsm_spec.specs.Node.{Turn, turn, outputs, outputs_from}
use Rattle.crsm_replica_rerun.specs.Sheets.{replica_after}

pub after_more : (r : Replica) (ts : List (Turn × ℕ)) (t : Turn × ℕ) → replica_after r (ts ++ t ∷ []) ≡ (turn (replica_after r ts) t).replica
unfolding replica_after
after_more r [] t = refl
after_more r (u ∷ ts) t = after_more (turn r u).replica ts t

steps_more : (r : Replica) (ts : List (Turn × ℕ)) (t : Turn × ℕ) → outputs_from r (ts ++ t ∷ []) ≡ outputs_from r ts ++ turn (replica_after r ts) t ∷ []
unfolding replica_after outputs_from
steps_more r [] t = refl
steps_more r (u ∷ ts) t = ap (λ (xs : List Draft). turn r u ∷ xs) (steps_more (turn r u).replica ts t)

pub outputs_more : (me n : ℕ) (log : Log) (ts : List (Turn × ℕ)) (t : Turn × ℕ)
    → outputs me n log (ts ++ t ∷ []) ≡ outputs me n log ts ++ turn (replica_after (boot me n log).replica ts) t ∷ []
unfolding outputs
outputs_more me n log ts t = ap (λ (xs : List Draft). boot me n log ∷ xs) (steps_more (boot me n log).replica ts t)

pub outputs_boot : (me n : ℕ) (log : Log) → outputs me n log [] ≡ boot me n log ∷ []
unfolding outputs outputs_from
outputs_boot me n log = refl

pub after_boot : (r : Replica) → replica_after r [] ≡ r
unfolding replica_after
after_boot r = refl
