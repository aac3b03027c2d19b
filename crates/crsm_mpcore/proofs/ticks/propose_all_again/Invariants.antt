use Rattle.std.specs.Prelude.{fold, take}
use Rattle.crsm_mpspec.specs.Draft.{Draft}
use Rattle.crsm_mpreplica.specs.State.{MpReplicaStands}
use Rattle.crsm_mpcore.specs.Ticks.{propose_slot}
use Rattle.crsm_mpcore.proofs.ticks.propose_all_again.Given as goal

abbrev pub invariant-loop-slot : goal.invariant-loop-slot
invariant-loop-slot l =
    (x : Draft) → MpReplicaStands l.initial.state x → MpReplicaStands l.state (fold (λ y slot. propose_slot slot y) x (take l.slot-index l.slot-items))
