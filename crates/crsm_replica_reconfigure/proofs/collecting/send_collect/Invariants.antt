use Rattle.std.proofs.Common.{◌≡◌, ℕ, List, take}
use Rattle.std.specs.Prelude.{fold}
use Rattle.crsm_spec.specs.Draft.{Draft}
use Rattle.crsm_spec.specs.Replica.{LogPage, Coordinator}
use Rattle.crsm_replica.specs.Replica.{ReplicaStands}
use Rattle.crsm_replica_reconfigure.specs.Reports.{ask_missing}
use Rattle.crsm_replica_reconfigure.proofs.collecting.send_collect.Given as goal

abbrev pub invariant-loop-k : goal.invariant-loop-k
invariant-loop-k l = (x : Draft) (ms : List ℕ) (pages : List LogPage) → ReplicaStands l.fn.state x → x.replica.coordinator ≡ Coordinator.Collecting ms pages → ReplicaStands l.state (fold (ask_missing pages) x (take l.k-index l.k-items))
