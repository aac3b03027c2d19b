use Rattle.std.specs.Prelude.{List, map, fold}
use Rattle.std.specs.Map.Iter.{deref_pair}
use Rattle.crsm_mpspec.specs.Draft.{Draft}
use Rattle.crsm_mpspec.specs.Replica.{Report}
use Rattle.crsm_mpspec.specs.Electing.{choose_reported}
use Rattle.crsm_mpreplica.specs.State.{MpReplicaStands}
use Rattle.crsm_mpcore.specs.Elections.{Elects}
use Rattle.crsm_mpcore.proofs.electing.choose_all.Given as goal

abbrev pub invariant-loop-slot : goal.invariant-loop-slot
invariant-loop-slot l =
    (x : Draft) → MpReplicaStands l.initial.state x → (reports : List Report) → Elects l.election reports → MpReplicaStands l.state (fold choose_reported x (map deref_pair l.yielded))
