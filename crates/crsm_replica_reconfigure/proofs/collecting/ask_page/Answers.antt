use Rattle.std.proofs.Common.{◌<◌, ◌^◌, subst, arith}
use Rattle.std.proofs.lemmas.Result.{IfOk-weaker}
use Rattle.crsm_spec.specs.Log.{decision}
use Rattle.crsm_replica_coordinator.specs.Coordinator.{CoordinatorStands}
use Rattle.crsm_replica.specs.Replica.{ReplicaStands}
use Rattle.crsm_replica_reconfigure.proofs.ReportLemmas.{ask_as}
use Rattle.crsm_replica_reconfigure.proofs.collecting.ask_page.Goals as goal

pub tell-requires-clause-spelt : goal.tell-requires-clause-spelt
tell-requires-clause-spelt c =
    let small : c.known-epoch.result < 2 ^ 64 = omega arith in
    (small, c.cursor-after.ensures.fits)

pub returns : goal.returns
returns c =
    IfOk-weaker c.tell.result _ _ (λ _ made x ms pages s e.
    let stands = subst (λ m. CoordinatorStands c.coordinator.result.now x.replica.me x.replica.n (decision x.replica.log) m) e (c.coordinator.ensures x s) in
    let after = c.cursor-after.ensures.value x.replica.me x.replica.n x.replica.log ms pages stands in
    subst (λ y. ReplicaStands c.tell.new.state y) (ask_as pages x c.args.k c.known-epoch.result c.cursor-after.result (c.known-epoch.ensures x s) after) (made x s)) c.tell.ensures
