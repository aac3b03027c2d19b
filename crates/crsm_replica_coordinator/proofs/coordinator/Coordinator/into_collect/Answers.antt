use Rattle.std.proofs.Common.{subst}
use Rattle.crsm_spec.specs.Replica.{Coordinator as CoordinatorOnPaper}
use Rattle.crsm_replica_coordinator.specs.Coordinator.{CoordinatorStands}
use Rattle.crsm_replica_coordinator.proofs.Coordinators.{not_collecting, as_gathering}
use Rattle.crsm_replica_coordinator.proofs.coordinator.Coordinator.into_collect.Goals as goal

pub returns-in-Collecting : goal.returns-in-Collecting
returns-in-Collecting c = λ me n known ms pages s. as_gathering me n known c.in-Collecting.collect ms pages (subst (λ x. CoordinatorStands x me n known (CoordinatorOnPaper.Collecting ms pages)) c.in-Collecting.is s)

pub returns-in_default : goal.returns-in_default
returns-in_default c = λ me n known ms pages s. absurd (not_collecting me n known c.args.self ms pages s c.in_default.not-Collecting)
