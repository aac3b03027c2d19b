use Rattle.std.proofs.Common.{◌∙◌, sym, subst, ap}
use Rattle.crsm_spec.specs.Proposing.{after_p2b}
use Rattle.crsm_spec.specs.Replica.{Coordinator as CoordinatorOnPaper}
use Rattle.crsm_replica_coordinator.specs.Coordinator.{CoordinatorStands}
use Rattle.crsm_replica_coordinator.proofs.Coordinators.{more_votes, vote_chooses, not_proposing, as_proposing}
use Rattle.crsm_replica_coordinator.proofs.coordinator.Coordinator.with_vote.Goals as goal

pub returns-then-is_chosen_with : goal.returns-then-is_chosen_with
returns-then-is_chosen_with c = λ me n known b own value acceptors s h.
    vote_chooses me n known c.in-Proposing.proposer c.into_value.result b own value acceptors c.args.k
    (as_proposing me n known c.in-Proposing.proposer b own value acceptors (subst (λ x. CoordinatorStands x me n known (CoordinatorOnPaper.Proposing b own value acceptors)) c.in-Proposing.is s)) h
    (sym c.is_chosen_with.ensures ∙ c.if-is_chosen_with.true) c.into_value.ensures

pub returns-in-Ok : goal.returns-in-Ok
returns-in-Ok c = λ me n known b own value acceptors s h.
    more_votes me n known c.in-Proposing.proposer c.on_p2b.new.self b own value acceptors c.args.k
    (as_proposing me n known c.in-Proposing.proposer b own value acceptors (subst (λ x. CoordinatorStands x me n known (CoordinatorOnPaper.Proposing b own value acceptors)) c.in-Proposing.is s)) h
    (sym c.is_chosen_with.ensures ∙ c.if-is_chosen_with.false)
    (c.in-Ok.ensures.state ∙ ap (λ x. after_p2b c.in-Proposing.proposer c.args.k x) c.ballot-ballot.ensures.value)

pub returns-in_default : goal.returns-in_default
returns-in_default c = λ me n known b own value acceptors s h. absurd (not_proposing me n known c.args.self b own value acceptors s c.in_default.not-Proposing)
