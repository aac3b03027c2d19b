use Rattle.std.proofs.Common.{◌≡◌, ◌∙◌, subst, refl, false}
use Rattle.crsm_replica_coordinator.specs.Coordinator.{CoordinatorStands, takes_answer}
use Rattle.crsm_replica_coordinator.proofs.Coordinators.{answer_taken, other_cases}
use Rattle.crsm_replica_coordinator.proofs.coordinator.Coordinator.takes_answer.Goals as goal

pub returns-in-Proposing : goal.returns-in-Proposing
returns-in-Proposing c = λ me n known m s. c.is_answer.ensures ∙ answer_taken me n known c.in-Proposing.proposer m c.args.b c.args.k (subst (λ x. CoordinatorStands x me n known m) c.in-Proposing.is s)

pub returns-in_default : goal.returns-in_default
unfolding takes_answer
returns-in_default c = λ me n known m s. other_cases me n known (λ x. false ≡ takes_answer x c.args.b c.args.k) c.args.self.now m s c.in_default.not-Proposing refl (λ ms pages. refl) (λ own seen. refl)
