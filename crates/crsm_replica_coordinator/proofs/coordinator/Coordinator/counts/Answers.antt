use Rattle.std.proofs.Common.{◌≡◌, ◌∙◌, subst, refl, false}
use Rattle.crsm_spec.specs.Lists.{has}
use Rattle.crsm_replica_coordinator.specs.Coordinator.{CoordinatorStands, counted_of}
use Rattle.crsm_replica_coordinator.proofs.Coordinators.{counted_is, other_cases}
use Rattle.crsm_replica_coordinator.proofs.coordinator.Coordinator.counts.Goals as goal

pub returns-in-Proposing : goal.returns-in-Proposing
returns-in-Proposing c = λ me n known m s. c.is_counted.ensures ∙ counted_is me n known c.in-Proposing.proposer m c.args.k (subst (λ x. CoordinatorStands x me n known m) c.in-Proposing.is s)

pub returns-in_default : goal.returns-in_default
unfolding counted_of has
returns-in_default c = λ me n known m s. other_cases me n known (λ x. false ≡ has (counted_of x) c.args.k) c.args.self.now m s c.in_default.not-Proposing refl (λ ms pages. refl) (λ own seen. refl)
