use Rattle.crsm_mpspec.specs.Draft.{Draft}
use Rattle.crsm_mpreplica.specs.State.{MpReplicaStands}
use Rattle.crsm_mpcore.proofs.ReplyLemmas.{IsOnWay}
use Rattle.crsm_mpcore.proofs.replies.replies.Given as goal

abbrev pub invariant-loop-replied : goal.invariant-loop-replied
invariant-loop-replied l = (x : Draft) → MpReplicaStands l.initial.state x → IsOnWay l.state x l._replied
