use Rattle.std.proofs.Common.{◌≡◌, ◌∙◌, sym, subst, true, false}
use Rattle.std.proofs.lemmas.Result.{IfOk-weaker}
use Rattle.crsm_spec.specs.Collect.{is_whole}
use Rattle.crsm_spec.specs.Log.{decision}
use Rattle.crsm_replica_coordinator.specs.Coordinator.{CoordinatorStands}
use Rattle.crsm_replica.specs.Replica.{ReplicaStands}
use Rattle.crsm_replica_reconfigure.proofs.ReportLemmas.{missing_whole, missing_asked}
use Rattle.crsm_replica_reconfigure.proofs.collecting.ask_missing.Goals as goal

pub returns-then-is_whole : goal.returns-then-is_whole
returns-then-is_whole c = λ x ms pages s e.
    let stands = subst (λ m. CoordinatorStands c.coordinator.result.now x.replica.me x.replica.n (decision x.replica.log) m) e (c.coordinator.ensures x s) in
    let whole : is_whole pages c.args.k ≡ true = sym (c.is_whole-is_whole.ensures x.replica.me x.replica.n x.replica.log ms pages stands) ∙ c.if-is_whole.true in
    subst (λ y. ReplicaStands c.args.state.now y) (missing_whole pages x c.args.k whole) s

pub returns : goal.returns
returns c =
    IfOk-weaker c.ask_page.result _ _ (λ _ made x ms pages s e.
    let stands = subst (λ m. CoordinatorStands c.coordinator.result.now x.replica.me x.replica.n (decision x.replica.log) m) e (c.coordinator.ensures x s) in
    let whole : is_whole pages c.args.k ≡ false = sym (c.is_whole-is_whole.ensures x.replica.me x.replica.n x.replica.log ms pages stands) ∙ c.if-is_whole.false in
    subst (λ y. ReplicaStands c.ask_page.new.state y) (missing_asked pages x c.args.k whole) (made x ms pages s e)) c.ask_page.ensures
