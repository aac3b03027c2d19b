use Rattle.std.proofs.Common.{◌≡◌, ◌++◌, [], map}
use Rattle.crsm_spec.specs.Draft.{Draft}
use Rattle.crsm_spec.specs.Clients.{answer_each}
use Rattle.crsm_replica.specs.Replica.{ReplicaStands, on_paper}
use Rattle.crsm_replica.proofs.state.ReplicaState.answer_waiting.Given as goal

abbrev pub invariant-loop-client : goal.invariant-loop-client
invariant-loop-client l =
    (x : Draft) → ReplicaStands l.fn.self x →
    ReplicaStands l.self (answer_each (map on_paper l.yielded) (record x { replica = record x.replica { waiting = [] } }))
    × (map on_paper l.yielded ++ map on_paper l.client-iterator.rest.items ≡ x.replica.waiting)
