use Rattle.std.proofs.Common.{◌∙◌, subst}
use Rattle.crsm_spec.specs.Replica.{Coordinator as CoordinatorOnPaper}
use Rattle.crsm_replica_coordinator.specs.Coordinator.{CoordinatorStands}
use Rattle.crsm_replica_coordinator.proofs.Coordinators.{last_vote, not_proposing, as_proposing}
use Rattle.crsm_replica_coordinator.proofs.coordinator.Coordinator.is_last_vote.Goals as goal

pub returns-in-Proposing : goal.returns-in-Proposing
returns-in-Proposing c = λ me n known b own value acceptors s h.
    c.is_chosen_with.ensures ∙ last_vote me n known c.in-Proposing.proposer b own value acceptors c.args.k
    (as_proposing me n known c.in-Proposing.proposer b own value acceptors (subst (λ x. CoordinatorStands x me n known (CoordinatorOnPaper.Proposing b own value acceptors)) c.in-Proposing.is s)) h

pub returns-in_default : goal.returns-in_default
returns-in_default c = λ me n known b own value acceptors s h. absurd (not_proposing me n known c.args.self.now b own value acceptors s c.in_default.not-Proposing)
