-- The effect of a rule for another replica's message on a replica's state.
use Rattle.std.specs.Prelude.{◌≢◌, ℕ, Result, IfOk}
use Rattle.crsm_base.specs.declared.NoMemory.{NoMemory}
use Rattle.crsm_spec.specs.Draft.{Draft}
use Rattle.crsm_spec.specs.Step.{if_fitting}
use Rattle.crsm_replica.specs.declared.state.ReplicaState.{ReplicaState}
use Rattle.crsm_replica.specs.Replica.{ReplicaStands}

-- Whatever the old state stood for, a replica other than k, the new one stands for the effect of the rule on it; if a
-- record would not fit, nothing is changed. Or memory ran out.
abbrev pub FollowsFrom : ℕ → (Draft → Draft) → ReplicaState → Result (Unit {0}) NoMemory → ReplicaState → Type 0
FollowsFrom k rule old result new =
    IfOk result (λ _. (x : Draft) → ReplicaStands old x → k ≢ x.replica.me → ReplicaStands new (if_fitting x (rule x)))
