use Rattle.std.proofs.Common.{take}
use Rattle.std.specs.List.{AllByRecursion}
use Rattle.crsm_spec.specs.Draft.{Draft}
use Rattle.crsm_replica.specs.Replica.{ReplicaStands, on_paper}
use Rattle.crsm_replica.proofs.Replying.{Waits}
use Rattle.crsm_replica.proofs.state.ReplicaState.all_wait.Given as goal

abbrev pub invariant-loop-client : goal.invariant-loop-client
invariant-loop-client l =
    (x : Draft) → ReplicaStands l.self x → AllByRecursion (λ w. Waits x (on_paper w)) (take l.client-index l.client-items)
