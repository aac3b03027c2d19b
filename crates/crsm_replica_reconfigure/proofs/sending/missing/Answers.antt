use Rattle.std.proofs.Common.{◌∙◌, ap}
use Rattle.std.specs.Prelude.{filter, not}
use Rattle.crsm_spec.specs.Lists.{has}
use Rattle.crsm_spec.specs.Log.{decision}
use Rattle.crsm_replica_coordinator.specs.Coordinator.{counted_of}
use Rattle.crsm_replica_reconfigure.proofs.sending.missing.Goals as goal

pub returns-clause-value : goal.returns-clause-value
returns-clause-value c = λ x s.
    c.in_ok-missing.ensures.value x.replica.me x.replica.n (decision x.replica.log) x.replica.coordinator (c.coordinator.ensures x s)
    ∙ ap (λ ks. filter (λ k. not (has (counted_of x.replica.coordinator) k)) ks) (c.deref.ensures.value ∙ c.in_ok-others.ensures.value x s)
