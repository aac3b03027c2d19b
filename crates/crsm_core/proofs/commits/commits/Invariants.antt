use Rattle.crsm_spec.specs.Draft.{Draft}
use Rattle.crsm_replica.specs.Replica.{ReplicaStands}
use Rattle.crsm_core.proofs.CommitLemmas.{Committed}
use Rattle.crsm_core.proofs.commits.commits.Given as goal

abbrev pub invariant-loop-done : goal.invariant-loop-done
invariant-loop-done l = (x : Draft) → ReplicaStands l.fn.state x → Committed l._done l.state x
