use Rattle.std.proofs.Common.{◌≡◌, sym, subst, rules}
use Rattle.crsm_replica.specs.Replica.{ReplicaStands}
use Rattle.crsm_replica_coordinator.specs.declared.coordinator.Coordinator.{Coordinator as CoordinatorInMemory}
use Rattle.crsm_replica_coordinator.specs.Coordinator.{CoordinatorStands}
use Rattle.crsm_spec.specs.Log.{decision}
use Rattle.crsm_spec.specs.Replica.{Coordinator}
use Rattle.crsm_spec.specs.Draft.{noting}
use Rattle.crsm_replica.proofs.Rebuilt.{noted}
use Rattle.crsm_replica.proofs.state.ReplicaState.take_coordinator.Goals as goal

pub returns-clause-quiet : goal.returns-clause-quiet
unfolding ReplicaStands noting
returns-clause-quiet c x s =
    let is : c.replace.new.dest ≡ c.quiet.result = search rules in
    noted c.args.self.now x c.replace.new.dest Coordinator.Idle s
    (subst (λ (m : CoordinatorInMemory). CoordinatorStands m x.replica.me x.replica.n (decision x.replica.log) Coordinator.Idle) (sym is) (c.quiet.ensures x.replica.me x.replica.n (decision x.replica.log)))
