use Rattle.crsm_mpspec.specs.Draft.{Draft}
use Rattle.crsm_mpreplica.specs.State.{MpReplicaStands}
use Rattle.crsm_mpcore.specs.Ticks.{send_where, question}
use Rattle.crsm_mpcore.proofs.ticks.ask_again.Given as goal

abbrev pub invariant-loop-to : goal.invariant-loop-to
invariant-loop-to l =
    (x : Draft) → MpReplicaStands l.initial.state x → MpReplicaStands l.state (send_where (question x.replica.me x.replica.note) l.to x)
