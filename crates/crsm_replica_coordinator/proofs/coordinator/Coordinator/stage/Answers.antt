use Rattle.std.proofs.Common.{◌∙◌, subst}
use Rattle.crsm_replica_coordinator.specs.Coordinator.{CoordinatorStands}
use Rattle.crsm_replica_coordinator.proofs.Coordinators.{stage_quiet, stage_collecting, stage_over, stage_proposer}
use Rattle.crsm_replica_coordinator.proofs.coordinator.Coordinator.stage.Goals as goal

pub returns-in-Idle : goal.returns-in-Idle
returns-in-Idle c = λ me n known m s. stage_quiet me n known m (subst (λ x. CoordinatorStands x me n known m) c.in-Idle.is s)

pub returns-in-Proposing : goal.returns-in-Proposing
returns-in-Proposing c = λ me n known m s.
    stage_proposer me n known c.in-Proposing.proposer m c.stage_in.result (subst (λ x. CoordinatorStands x me n known m) c.in-Proposing.is s)
    (λ t. c.stage_in.ensures.proposing (c.has_proposed.ensures ∙ t)) (λ t. c.stage_in.ensures.asking (c.has_proposed.ensures ∙ t))

pub returns-in-Collecting : goal.returns-in-Collecting
returns-in-Collecting c = λ me n known m s. stage_collecting me n known _ m (subst (λ x. CoordinatorStands x me n known m) c.in-Collecting.is s)

pub returns-in-Preempted : goal.returns-in-Preempted
returns-in-Preempted c = λ me n known m s. stage_over me n known _ m (subst (λ x. CoordinatorStands x me n known m) c.in-Preempted.is s)
