use Rattle.std.proofs.Common.{take}
use Rattle.crsm_spec.specs.Draft.{Draft, send_to_each}
use Rattle.crsm_replica.specs.Replica.{ReplicaStands}
use Rattle.crsm_replica.proofs.state.ReplicaState.send_to_each.Given as goal

abbrev pub invariant-loop-k : goal.invariant-loop-k
invariant-loop-k l = (x : Draft) → ReplicaStands l.initial.self x → ReplicaStands l.self (send_to_each (take l.k-index l.replicas) l.control x)
