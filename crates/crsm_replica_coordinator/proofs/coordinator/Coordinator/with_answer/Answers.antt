use Rattle.std.proofs.Common.{◌∙◌, subst, ap}
use Rattle.crsm_spec.specs.Proposing.{after_p1b}
use Rattle.crsm_spec.specs.Replica.{Coordinator as CoordinatorOnPaper}
use Rattle.crsm_replica_coordinator.specs.Coordinator.{CoordinatorStands}
use Rattle.crsm_replica_coordinator.proofs.Coordinators.{p1b_stands, not_asking, as_asking}
use Rattle.crsm_replica_coordinator.proofs.coordinator.Coordinator.with_answer.Goals as goal

pub returns-in-Ok : goal.returns-in-Ok
returns-in-Ok c = λ me n known b own answers s h new.
    p1b_stands me n known c.in-Proposing.proposer c.on_p1b.new.self b own answers (record { replica = c.args.k; accepted = c.args.accepted })
    (as_asking me n known c.in-Proposing.proposer b own answers (subst (λ x. CoordinatorStands x me n known (CoordinatorOnPaper.Preparing b own answers)) c.in-Proposing.is s)) h new c.requires.accepted
    (c.in-Ok.ensures.state ∙ ap (λ x. after_p1b c.in-Proposing.proposer c.args.k x c.args.accepted) c.ballot-ballot.ensures.value)

pub returns-in_default : goal.returns-in_default
returns-in_default c = λ me n known b own answers s h new. absurd (not_asking me n known c.args.self b own answers s c.in_default.not-Proposing)
