use Rattle.std.proofs.Common.{◌∙◌, ap, subst}
use Rattle.std.specs.Prelude.{Some}
use Rattle.crsm_spec.specs.Types.{Ballot, Decision}
use Rattle.crsm_spec.specs.Replica.{Coordinator as CoordinatorOnPaper}
use Rattle.crsm_replica_coordinator.specs.Coordinator.{CoordinatorStands}
use Rattle.crsm_replica_coordinator.proofs.Coordinators.{own_back, not_over}
use Rattle.crsm_replica_coordinator.proofs.coordinator.Coordinator.own_again.Goals as goal

pub returns-in_ok-copy-in-Preempted-clause-value : goal.returns-in_ok-copy-in-Preempted-clause-value
returns-in_ok-copy-in-Preempted-clause-value c = λ me n known own seen s.
    let b = own_back me n known c.in-Preempted.retry own seen (subst (λ x. CoordinatorStands x me n known (CoordinatorOnPaper.Preempted own seen)) c.in-Preempted.is s) in
    (ap (λ (r : Decision × Ballot). Some r) (c.in_ok-copy-in-Preempted.ensures.value ∙ b.0), b.1, b.2)

pub returns-in_default : goal.returns-in_default
returns-in_default c = record {
  value = λ me n known own seen s. absurd (not_over me n known c.args.self.now own seen s c.in_default.not-Preempted);
  fits = tt;
}
