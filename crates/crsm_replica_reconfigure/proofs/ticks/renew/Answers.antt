use Rattle.std.proofs.Common.{◌≡◌, ◌∙◌, ap, sym, true}
use Rattle.std.proofs.lemmas.Result.{IfOk-weaker}
use Rattle.crsm_spec.specs.Log.{decision}
use Rattle.crsm_spec.specs.Replica.{Coordinator}
use Rattle.crsm_spec.specs.Coordinate.{send_ask}
use Rattle.crsm_spec.specs.Step.{renew, send_collect}
use Rattle.crsm_replica_coordinator.specs.declared.coordinator.Stage.{Stage}
use Rattle.crsm_replica_coordinator.specs.Coordinator.{stage_of}
use Rattle.crsm_replica_reconfigure.proofs.DraftLemmas.{does_nothing}
use Rattle.crsm_replica_reconfigure.proofs.RenewLemmas.{is_quiet, is_collecting, is_asking, is_proposing, is_over, all_fits, renewed_as, renews_nothing, renews_collection, renews_question, collect_fitting, question_fitting}
use Rattle.crsm_replica_reconfigure.proofs.ticks.renew.Goals as goal

pub returns-in-Idle : goal.returns-in-Idle
returns-in-Idle c = λ x s.
    let stage : Stage.Idle ≡ stage_of x.replica.coordinator = sym c.in-Idle.is ∙ c.stage.ensures x.replica.me x.replica.n (decision x.replica.log) x.replica.coordinator (c.coordinator.ensures x s) in
    let is : renew x.replica.coordinator x ≡ x = ap (λ m. renew m x) (is_quiet x.replica.coordinator stage) ∙ renews_nothing x in (
      sym (ap (λ y. y.fitting) is ∙ (c.states_are_sound.ensures c.args.state.now x s).fitting),
      does_nothing c.args.state.now x (renew x.replica.coordinator x) is s,
    )

pub returns-in_ok-send_collect-in-Collecting : goal.returns-in_ok-send_collect-in-Collecting
returns-in_ok-send_collect-in-Collecting c = λ x s.
    let stage : Stage.Collecting ≡ stage_of x.replica.coordinator = sym c.in-Collecting.is ∙ c.stage.ensures x.replica.me x.replica.n (decision x.replica.log) x.replica.coordinator (c.coordinator.ensures x s) in
    let found = is_collecting x.replica.coordinator stage in
    let is : send_collect found.1 x ≡ renew x.replica.coordinator x = renews_collection found.0 found.1 x ∙ ap (λ m. renew m x) (sym found.2) in
    let fitting : (send_collect found.1 x).fitting ≡ true = collect_fitting found.1 x ∙ (c.states_are_sound.ensures c.args.state.now x s).fitting in
    all_fits c.send_collect.new.state x (send_collect found.1 x) (renew x.replica.coordinator x) is fitting (c.in_ok-send_collect-in-Collecting.ensures x found.0 found.1 s found.2)

pub returns-in_ok-send_ask-in-Preparing : goal.returns-in_ok-send_ask-in-Preparing
returns-in_ok-send_ask-in-Preparing c = λ x s.
    let stage : Stage.Preparing ≡ stage_of x.replica.coordinator = sym c.in-Preparing.is ∙ c.stage.ensures x.replica.me x.replica.n (decision x.replica.log) x.replica.coordinator (c.coordinator.ensures x s) in
    let found = is_asking x.replica.coordinator stage in
    let m : Coordinator = Coordinator.Preparing found.0 found.1 found.2 in
    let is : send_ask m x ≡ renew x.replica.coordinator x = renews_question found.0 found.1 found.2 x ∙ ap (λ m. renew m x) (sym found.3) in
    let fitting : (send_ask m x).fitting ≡ true = question_fitting found.0 found.1 found.2 x ∙ (c.states_are_sound.ensures c.args.state.now x s).fitting in
    all_fits c.send_ask.new.state x (send_ask m x) (renew x.replica.coordinator x) is fitting (c.in_ok-send_ask-in-Preparing.ensures x found.0 found.1 found.2 s found.3)

pub returns-in-Proposing : goal.returns-in-Proposing
returns-in-Proposing c =
    IfOk-weaker c.renew_proposal.result _ _ (λ fit made x s.
    let stage : Stage.Proposing ≡ stage_of x.replica.coordinator = sym c.in-Proposing.is ∙ c.stage.ensures x.replica.me x.replica.n (decision x.replica.log) x.replica.coordinator (c.coordinator.ensures x s) in
    let found = is_proposing x.replica.coordinator stage in
    renewed_as c.renew_proposal.new.state x _ x.replica.coordinator _ found.is (made x found.ballot found.own found.value found.acceptors s found.is)) c.renew_proposal.ensures

pub returns-in-Preempted : goal.returns-in-Preempted
returns-in-Preempted c =
    IfOk-weaker c.renew_over.result _ _ (λ fit made x s.
    let stage : Stage.Preempted ≡ stage_of x.replica.coordinator = sym c.in-Preempted.is ∙ c.stage.ensures x.replica.me x.replica.n (decision x.replica.log) x.replica.coordinator (c.coordinator.ensures x s) in
    let found = is_over x.replica.coordinator stage in
    renewed_as c.renew_over.new.state x _ x.replica.coordinator _ found.2 (made x found.0 found.1 s found.2)) c.renew_over.ensures
