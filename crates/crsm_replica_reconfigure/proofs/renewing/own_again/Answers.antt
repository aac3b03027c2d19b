use Rattle.std.proofs.Common.{subst}
use Rattle.crsm_spec.specs.Log.{decision}
use Rattle.crsm_replica_coordinator.specs.Coordinator.{CoordinatorStands}
use Rattle.crsm_replica_reconfigure.proofs.renewing.own_again.Goals as goal

pub returns-clause-value : goal.returns-clause-value
returns-clause-value c = λ x own seen s e.
    let known = decision x.replica.log in
    let stands = subst (λ m. CoordinatorStands c.coordinator.result.now x.replica.me x.replica.n known m) e (c.coordinator.ensures x s) in
    let again = c.in_ok-found.ensures.value x.replica.me x.replica.n known own seen stands in
    (again.0, (again.1, again.2))
