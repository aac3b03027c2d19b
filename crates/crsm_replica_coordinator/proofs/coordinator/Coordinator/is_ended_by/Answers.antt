use Rattle.std.proofs.Common.{◌≡◌, ◌∙◌, subst, refl, false}
use Rattle.crsm_replica_coordinator.specs.Coordinator.{CoordinatorStands, is_ended_by}
use Rattle.crsm_replica_coordinator.proofs.Coordinators.{ended, other_cases}
use Rattle.crsm_replica_coordinator.proofs.coordinator.Coordinator.is_ended_by.Goals as goal

pub returns-in-Proposing : goal.returns-in-Proposing
returns-in-Proposing c = λ me n known m s. c.is_end.ensures ∙ ended me n known c.in-Proposing.proposer m c.args.b c.args.top (subst (λ x. CoordinatorStands x me n known m) c.in-Proposing.is s)

pub returns-in_default : goal.returns-in_default
unfolding is_ended_by
returns-in_default c = λ me n known m s. other_cases me n known (λ x. false ≡ is_ended_by x c.args.b c.args.top) c.args.self.now m s c.in_default.not-Proposing refl (λ ms pages. refl) (λ own seen. refl)
