use Rattle.std.proofs.Common.{◌≡◌, sym, subst, rules}
use Rattle.crsm_replica.specs.Replica.{ReplicaStands}
use Rattle.crsm_replica_coordinator.specs.declared.coordinator.Coordinator.{Coordinator as CoordinatorInMemory}
use Rattle.crsm_replica_coordinator.specs.Coordinator.{CoordinatorStands}
use Rattle.crsm_spec.specs.Log.{decision}
use Rattle.crsm_spec.specs.Draft.{noting}
use Rattle.crsm_replica.proofs.Rebuilt.{noted}
use Rattle.crsm_replica.proofs.state.ReplicaState.set_coordinator.Goals as goal

pub returns : goal.returns
unfolding ReplicaStands noting
returns c x m s stands =
    let is : c.replace.new.dest ≡ c.args.coordinator = search rules in
    noted c.args.self.now x c.replace.new.dest m s (subst (λ (q : CoordinatorInMemory). CoordinatorStands q x.replica.me x.replica.n (decision x.replica.log) m) (sym is) stands)
