use Rattle.std.proofs.Common.{◌∙◌, subst}
use Rattle.crsm_spec.specs.Replica.{Coordinator as CoordinatorOnPaper}
use Rattle.crsm_replica_coordinator.specs.Coordinator.{CoordinatorStands}
use Rattle.crsm_replica_coordinator.proofs.Coordinators.{last_answer, not_asking, as_asking}
use Rattle.crsm_replica_coordinator.proofs.coordinator.Coordinator.is_last_answer.Goals as goal

pub returns-in-Proposing : goal.returns-in-Proposing
returns-in-Proposing c = λ me n known b own answers a s h new.
    c.is_last_promise.ensures ∙ last_answer me n known c.in-Proposing.proposer b own answers a
    (as_asking me n known c.in-Proposing.proposer b own answers (subst (λ x. CoordinatorStands x me n known (CoordinatorOnPaper.Preparing b own answers)) c.in-Proposing.is s)) h new

pub returns-in_default : goal.returns-in_default
returns-in_default c = λ me n known b own answers a s h new. absurd (not_asking me n known c.args.self.now b own answers s c.in_default.not-Proposing)
