use Rattle.crsm_spec.specs.Draft.{Draft}
use Rattle.crsm_replica.specs.Replica.{ReplicaStands}
use Rattle.crsm_core.proofs.OwedLemmas.{Paid}
use Rattle.crsm_core.proofs.owed.owed_oks.Given as goal

abbrev pub invariant-loop-paid : goal.invariant-loop-paid
invariant-loop-paid l = (x : Draft) → ReplicaStands l.fn.state x → Paid l.reading l._paid l.state x
