use Rattle.std.proofs.Common.{◌≡◌, ◌∙◌, subst, ap, refl}
use Rattle.std.specs.Prelude.{Some, None}
use Rattle.crsm_replica_coordinator.specs.Coordinator.{CoordinatorStands, ballot_of}
use Rattle.crsm_replica_coordinator.proofs.Coordinators.{ballot_is, other_cases}
use Rattle.crsm_replica_coordinator.proofs.coordinator.Coordinator.ballot.Goals as goal

pub returns-in-Proposing : goal.returns-in-Proposing
returns-in-Proposing c = λ me n known m s. ap (λ b. Some b) c.ballot.ensures.value ∙ ballot_is me n known c.in-Proposing.proposer m (subst (λ x. CoordinatorStands x me n known m) c.in-Proposing.is s)

pub returns-in_default : goal.returns-in_default
unfolding ballot_of
returns-in_default c = λ me n known m s. other_cases me n known (λ x. None ≡ ballot_of x) c.args.self.now m s c.in_default.not-Proposing refl (λ ms pages. refl) (λ own seen. refl)
