use Rattle.std.proofs.Common.{subst}
use Rattle.crsm_spec.specs.Log.{decision}
use Rattle.crsm_spec.specs.Replica.{Coordinator as CoordinatorOnPaper}
use Rattle.crsm_spec.specs.Quorum.{spec_decided}
use Rattle.crsm_replica_coordinator.specs.Coordinator.{CoordinatorStands, named_in}
use Rattle.crsm_replica_coordinator.proofs.Coordinators.{not_collecting, as_gathering}
use Rattle.crsm_replica_coordinator.proofs.coordinator.Coordinator.cursor.Goals as goal
use Rattle.std.proofs.Common.{refl}

pub returns-in-Collecting-clause-value : goal.returns-in-Collecting-clause-value
returns-in-Collecting-clause-value c = λ me n log ms pages s.
    let g = as_gathering me n (decision log) c.in-Collecting.collect ms pages (subst (λ x. CoordinatorStands x me n (decision log) (CoordinatorOnPaper.Collecting ms pages)) c.in-Collecting.is s) in
    c.cursor.ensures.value log (spec_decided n (decision log)) (named_in n (decision log) ms) ms pages (g.collects log refl)

pub returns-in_default-clause-value : goal.returns-in_default-clause-value
returns-in_default-clause-value c = λ me n log ms pages s. absurd (not_collecting me n (decision log) c.args.self.now ms pages s c.in_default.not-Collecting)
