use Rattle.std.proofs.Common.{◌≡◌, ◌∙◌, subst, refl}
use Rattle.std.specs.Prelude.{None}
use Rattle.crsm_replica_coordinator.specs.Coordinator.{CoordinatorStands, proposal_of}
use Rattle.std.proofs.lemmas.Result.{IfOk-weaker}
use Rattle.crsm_replica_coordinator.proofs.Coordinators.{proposal_is, other_cases}
use Rattle.crsm_replica_coordinator.proofs.coordinator.Coordinator.proposal.Goals as goal

pub returns-in-Proposing-clause-value : goal.returns-in-Proposing-clause-value
returns-in-Proposing-clause-value c = λ me n known m s.
    IfOk-weaker c.proposal_in.result _ _ (λ p e. e ∙ proposal_is me n known c.in-Proposing.proposer m (subst (λ x. CoordinatorStands x me n known m) c.in-Proposing.is s)) c.proposal_in.ensures.value

pub returns-in_default : goal.returns-in_default
unfolding proposal_of
returns-in_default c = record {
  value = λ me n known m s. other_cases me n known (λ x. None ≡ proposal_of x) c.args.self.now m s c.in_default.not-Proposing refl (λ ms pages. refl) (λ own seen. refl);
  fits = tt;
}
