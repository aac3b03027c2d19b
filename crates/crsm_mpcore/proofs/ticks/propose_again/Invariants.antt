use Rattle.crsm_mpspec.specs.Draft.{Draft}
use Rattle.crsm_mpreplica.specs.State.{MpReplicaStands}
use Rattle.crsm_mpcore.specs.Ticks.{IsOpen, send_where, proposal}
use Rattle.crsm_mpcore.proofs.ticks.propose_again.Given as goal

abbrev pub invariant-loop-to : goal.invariant-loop-to
invariant-loop-to l =
    (x : Draft) → MpReplicaStands l.initial.state x → IsOpen l.slot x.replica x.replica.note → MpReplicaStands l.state (send_where (proposal l.slot x.replica x.replica.note) l.to x)
