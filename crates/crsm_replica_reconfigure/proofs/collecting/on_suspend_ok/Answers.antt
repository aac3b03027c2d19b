use Rattle.std.proofs.Common.{◌≡◌, ◌∙◌, sym, subst, ap, refl}
use Rattle.std.specs.Option.{IsSomeAnd}
use Rattle.std.proofs.lemmas.Result.{IfOk-weaker}
use Rattle.crsm_spec.specs.Log.{decision}
use Rattle.crsm_spec.specs.Quorum.{spec_decided}
use Rattle.crsm_spec.specs.Replica.{Coordinator}
use Rattle.crsm_spec.specs.Draft.{noting}
use Rattle.crsm_spec.specs.Controls.{on_control}
use Rattle.crsm_suspend.specs.Collecting.{FitsGot}
use Rattle.crsm_suspend.specs.Coordinating.{on_got}
use Rattle.crsm_replica_coordinator.specs.Coordinator.{CoordinatorStands, IsGathering, named_in}
use Rattle.crsm_replica_coordinator.proofs.Coordinators.{gathers}
use Rattle.crsm_replica.specs.Replica.{ReplicaStands}
use Rattle.crsm_replica_reconfigure.specs.Reports.{IsReport, CanGoOn}
use Rattle.crsm_replica_reconfigure.proofs.ReportLemmas.{collecting_as, after_report, report_got, by_the_rules, report_ignored, report_goes_on, taken_is_got, done_in, report_fitting}
use Rattle.crsm_replica_reconfigure.proofs.DraftLemmas.{is_whole, does_nothing}
use Rattle.crsm_replica_reconfigure.proofs.collecting.on_suspend_ok.Goals as goal

pub returns-then-not-is_collecting : goal.returns-then-not-is_collecting
returns-then-not-is_collecting c = λ x s apart.
    does_nothing c.args.state.now x _ (report_ignored c.args.k c.args.answer.now x c.requires.is (sym (c.is_collecting-is_collecting.ensures x s) ∙ c.if-not-is_collecting.true)) s

pub returns-in_default : goal.returns-in_default
returns-in_default c = λ x s apart.
    let m = collecting_as x.replica.coordinator (sym (c.is_collecting-is_collecting.ensures x s) ∙ c.if-not-is_collecting.false) in
    let stands = subst (λ z. CoordinatorStands c.take_coordinator-coordinator.result x.replica.me x.replica.n (decision x.replica.log) z) m.2 (c.take_coordinator-coordinator.ensures.coordinator x s) in
    let some = c.into_collect.ensures x.replica.me x.replica.n (decision x.replica.log) m.0 m.1 stands in
    absurd (subst (λ o. IsSomeAnd o (λ q. IsGathering q x.replica.me x.replica.n (decision x.replica.log) m.0 m.1)) c.in_default.is some)

pub returns : goal.returns
unfolding noting
returns c =
    IfOk-weaker c.go_on.result _ _ (λ _ made x s apart.
    let k = c.args.k in
    let a = c.in_ok-answer.answer in
    let m = collecting_as x.replica.coordinator (sym (c.is_collecting-is_collecting.ensures x s) ∙ c.if-not-is_collecting.false) in
    let ms = m.0 in
    let pages = m.1 in
    let stands = subst (λ z. CoordinatorStands c.take_coordinator-coordinator.result x.replica.me x.replica.n (decision x.replica.log) z) m.2 (c.take_coordinator-coordinator.ensures.coordinator x s) in
    let some = c.into_collect.ensures x.replica.me x.replica.n (decision x.replica.log) ms pages stands in
    let g : IsGathering c.in-Some.collect x.replica.me x.replica.n (decision x.replica.log) ms pages =
    subst (λ o. IsSomeAnd o (λ q. IsGathering q x.replica.me x.replica.n (decision x.replica.log) ms pages)) c.in-Some.is some in
    let held = g.collects x.replica.log refl in
    let spec = spec_decided x.replica.n (decision x.replica.log) in
    let named = named_in x.replica.n (decision x.replica.log) ms in
    let report : IsReport a = subst IsReport (sym c.in_ok-answer.ensures) c.requires.is in
    let got : c.in-Ok.got ≡ report_got k a ms pages x = c.in-Ok.ensures.got x.replica.log spec named ms pages held in
    let fits = subst FitsGot got c.in-Ok.ensures.fits in
    let after = after_report k a ms pages x in
    let gathering = gathers x.replica.me x.replica.n x.replica.log ms after c.take.new.self g.counted (c.in-Ok.ensures.state x.replica.log spec named ms pages held) in
    let can = report_goes_on k a ms pages x (c.states_are_sound.ensures c.args.state.now x s) report apart g.counted fits in
    let gone = made (noting Coordinator.Idle x) ms after (c.take_coordinator-coordinator.ensures.quiet x s) gathering (subst (λ r. CanGoOn k after r (noting Coordinator.Idle x)) (sym got) can) in
    let is = taken_is_got x.replica.log spec named ms pages k a report in
    let rule : on_got ms after (report_got k a ms pages x) (noting (Coordinator.Collecting ms after) (noting Coordinator.Idle x)) ≡ on_control k c.args.answer.now x =
    done_in ms pages after k _ (report_got k a ms pages x) x is m.2 ∙ by_the_rules c.got_is_by_the_rules.ensures.taken k a ms pages x report m.2 ∙ ap (λ b. on_control k b x) c.in_ok-answer.ensures in
    is_whole c.go_on.new.state x _
    (ap (λ y. y.fitting) (sym rule) ∙ report_fitting ms after (report_got k a ms pages x) (Coordinator.Collecting ms after) x (c.states_are_sound.ensures c.args.state.now x s).fitting can.fits)
    (subst (λ y. ReplicaStands c.go_on.new.state y) rule (subst (λ r. ReplicaStands c.go_on.new.state (on_got ms after r (noting (Coordinator.Collecting ms after) (noting Coordinator.Idle x)))) got gone))) c.go_on.ensures
