use Rattle.std.proofs.Common.{◌≡◌, ◌∙◌, subst, refl}
use Rattle.std.specs.Prelude.{None}
use Rattle.crsm_spec.specs.Types.{Decision}
use Rattle.crsm_spec.specs.Paxos.{Answer}
use Rattle.crsm_replica_coordinator.specs.Coordinator.{CoordinatorStands, proposal_with}
use Rattle.std.proofs.lemmas.Result.{IfOk-weaker}
use Rattle.crsm_replica_coordinator.proofs.Coordinators.{proposal_with_is, other_cases}
use Rattle.crsm_replica_coordinator.proofs.coordinator.Coordinator.proposal_with.Goals as goal

pub returns-in-Proposing-clause-value : goal.returns-in-Proposing-clause-value
returns-in-Proposing-clause-value c = λ me n known m s.
    let a : Answer Decision = record { replica = c.args.k; accepted = c.args.accepted.now } in
    IfOk-weaker c.proposal_in_with.result _ _ (λ p e. e ∙ proposal_with_is me n known c.in-Proposing.proposer m a (subst (λ x. CoordinatorStands x me n known m) c.in-Proposing.is s)) c.proposal_in_with.ensures.value

pub returns-in_default : goal.returns-in_default
unfolding proposal_with
returns-in_default c = record {
  value = λ me n known m s. other_cases me n known (λ x. None ≡ proposal_with x (record { replica = c.args.k; accepted = c.args.accepted.now })) c.args.self.now m s c.in_default.not-Proposing refl (λ ms pages. refl) (λ own seen. refl);
  fits = tt;
}
