use Rattle.std.specs.Prelude.{◌-◌, drop, fold, take}
use Rattle.std.specs.List.{enumerate_from}
use Rattle.crsm_mpspec.specs.Draft.{Draft}
use Rattle.crsm_mpspec.specs.Log.{executed}
use Rattle.crsm_mpspec.specs.Step.{teach}
use Rattle.crsm_mpreplica.specs.State.{MpReplicaStands}
use Rattle.crsm_mpcore.proofs.learning.on_ask.Given as goal

abbrev pub invariant-loop-slot : goal.invariant-loop-slot
invariant-loop-slot l =
    (x : Draft) → MpReplicaStands l.initial.state x → MpReplicaStands l.state (fold (teach l.from) x (take (l.slot - l.start) (drop l.start (enumerate_from 0 (executed x.replica.log)))))
