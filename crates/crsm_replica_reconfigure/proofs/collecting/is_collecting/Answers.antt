use Rattle.crsm_spec.specs.Log.{decision}
use Rattle.crsm_replica_reconfigure.proofs.StageLemmas.{collects_now, collects_not}
use Rattle.crsm_replica_reconfigure.proofs.collecting.is_collecting.Goals as goal

pub returns-in-Collecting : goal.returns-in-Collecting
returns-in-Collecting c = λ x s. collects_now c.stage.result x.replica.coordinator (c.stage.ensures x.replica.me x.replica.n (decision x.replica.log) x.replica.coordinator (c.coordinator.ensures x s)) c.in-Collecting.is

pub returns-in_default : goal.returns-in_default
returns-in_default c = λ x s. collects_not c.stage.result x.replica.coordinator (c.stage.ensures x.replica.me x.replica.n (decision x.replica.log) x.replica.coordinator (c.coordinator.ensures x s)) c.in_default.not-Collecting
