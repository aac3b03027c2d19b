use Rattle.std.proofs.Common.{take}
use Rattle.std.specs.Prelude.{fold}
use Rattle.crsm_spec.specs.Draft.{Draft}
use Rattle.crsm_spec.specs.Frames.{again_to}
use Rattle.crsm_replica.specs.Replica.{ReplicaStands}
use Rattle.crsm_core.proofs.ticks.send_again.Given as goal

abbrev pub invariant-loop-k : goal.invariant-loop-k
invariant-loop-k l = (x : Draft) → ReplicaStands l.fn.state x → ReplicaStands l.state (fold again_to x (take l.k-index l.k-items))
