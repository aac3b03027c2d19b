use Rattle.std.proofs.Common.{subst, sym}
use Rattle.crsm_spec.specs.Types.{Ballot, Decision}
use Rattle.crsm_replica_coordinator.specs.declared.coordinator.Coordinator.{Coordinator}
use Rattle.crsm_replica_coordinator.specs.Coordinator.{CoordinatorStands, preempted_by}
use Rattle.crsm_replica_coordinator.proofs.Coordinators.{preempted_stands, other_cases}
use Rattle.crsm_replica_coordinator.proofs.coordinator.Coordinator.preempted.Goals as goal

pub returns-in-Proposing : goal.returns-in-Proposing
returns-in-Proposing c = λ me n known m s.
    subst (λ (r : Decision × Ballot). CoordinatorStands (Coordinator.Preempted r) me n known (preempted_by m c.args.top)) (sym c.new.ensures)
    (preempted_stands me n known c.in-Proposing.proposer c.into_own.result m c.args.top (subst (λ x. CoordinatorStands x me n known m) c.in-Proposing.is s) c.requires c.into_own.ensures.value)

pub returns-in_default : goal.returns-in_default
unfolding preempted_by
returns-in_default c = λ me n known m s.
    other_cases me n known (λ x. CoordinatorStands c.args.self me n known x → CoordinatorStands c.args.self me n known (preempted_by x c.args.top)) c.args.self m s c.in_default.not-Proposing (λ t. t) (λ ms pages t. t) (λ own seen t. t) s
