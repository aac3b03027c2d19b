use Rattle.std.specs.Prelude.{◌-◌, List, fold}
use Rattle.std.specs.List.{range_with_len}
use Rattle.crsm_mpspec.specs.Draft.{Draft}
use Rattle.crsm_mpspec.specs.Replica.{Report}
use Rattle.crsm_mpspec.specs.Electing.{propose_reported}
use Rattle.crsm_mpreplica.specs.State.{MpReplicaStands}
use Rattle.crsm_mpcore.specs.Elections.{Elects}
use Rattle.crsm_mpcore.proofs.electing.propose_all.Given as goal

abbrev pub invariant-loop-slot : goal.invariant-loop-slot
invariant-loop-slot l =
    (x : Draft) → MpReplicaStands l.initial.state x → (reports : List Report) → Elects l.election reports →
    MpReplicaStands l.state (fold (propose_reported l.election.ballot reports) x (range_with_len l.election.start (l.slot - l.election.start)))
