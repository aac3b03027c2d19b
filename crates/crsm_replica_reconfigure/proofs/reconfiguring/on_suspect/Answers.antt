use Rattle.std.proofs.Common.{◌≡◌, ◌∙◌, sym, subst, ap, true, [], ◌∷◌}
use Rattle.std.proofs.lemmas.Result.{IfOk-weaker}
use Rattle.crsm_spec.specs.Collect.{own_page}
use Rattle.crsm_spec.specs.Replica.{Coordinator, spec_of, named_spec}
use Rattle.crsm_spec.specs.Draft.{noting}
use Rattle.crsm_ledger.specs.Ledger.{LedgerStands}
use Rattle.crsm_suspend.specs.Collecting.{FitsGot, CollectStands, got_whole}
use Rattle.crsm_suspend.specs.Coordinating.{on_got}
use Rattle.crsm_replica.specs.Replica.{ReplicaStands}
use Rattle.crsm_replica_reconfigure.specs.Reports.{CanBegin, CanGoOn, Begun, begins_fitting}
use Rattle.crsm_replica_reconfigure.proofs.ReconfigureLemmas.{suspect_ignored, own_pages, own_got, all_told, sent_alike, suspect_is, suspect_fitting, suspect_can, suspect_goes_on, suspect_gathers}
use Rattle.crsm_replica_reconfigure.proofs.DraftLemmas.{is_whole, is_ignored, does_nothing}
use Rattle.crsm_replica_reconfigure.proofs.reconfiguring.on_suspect.Goals as goal

pub returns-in_default : goal.returns-in_default
returns-in_default c = λ x s.
    does_nothing c.args.state.now x _ (suspect_ignored c.args.members.now x (subst (λ o. Begun o c.args.members.now x) c.in_default.is (c.in_ok-collect.ensures x s))) s

pub returns-then-not-fits : goal.returns-then-not-fits
returns-then-not-fits c = λ x s.
    let ms = c.args.members.now in
    let law = c.got_is_by_the_rules.ensures.counted in
    let sound = c.states_are_sound.ensures c.args.state.now x s in
    let begun = subst (λ o. Begun o ms x) c.in-Some.is (c.in_ok-collect.ensures x s) in
    let me : c.me-me.result ≡ x.replica.me = c.me-me.ensures.value x s in
    let says = subst (λ k. LedgerStands k x.replica.n c.ledger.result.now x.replica.log) (sym me) (c.ledger.ensures.stands x s) in
    let got : c.in-Ok.got ≡ own_got ms x =
    c.in-Ok.ensures.got x.replica.n x.replica.log (spec_of x.replica) (named_spec x.replica ms) ms [] says begun.1
    ∙ ap (λ k. got_whole x.replica.log (spec_of x.replica) (named_spec x.replica ms) ms (own_page k x.replica.log ∷ [])) me in
    let spelt = subst FitsGot got c.in-Ok.ensures.fits in
    let fit = subst (λ r. c.in-Ok-may_go_on.fits ≡ begins_fitting r (all_told ms x)) got
    (c.in-Ok-may_go_on.ensures x (all_told ms x) s (subst (λ r. CanBegin r x) (sym got) (suspect_can law ms x sound begun.0 spelt)) (sent_alike law ms x sound begun.0)) in
    is_ignored c.args.state.now x _ (suspect_fitting law ms x sound begun.0 ∙ sym fit ∙ c.if-not-fits.true) s

pub returns : goal.returns
returns c =
    IfOk-weaker c.go_on.result _ _ (λ _ made x s.
    let ms = c.args.members.now in
    let law = c.got_is_by_the_rules.ensures.counted in
    let sound = c.states_are_sound.ensures c.args.state.now x s in
    let begun = subst (λ o. Begun o ms x) c.in-Some.is (c.in_ok-collect.ensures x s) in
    let me : c.me-me.result ≡ x.replica.me = c.me-me.ensures.value x s in
    let says = subst (λ k. LedgerStands k x.replica.n c.ledger.result.now x.replica.log) (sym me) (c.ledger.ensures.stands x s) in
    let spec = spec_of x.replica in
    let named = named_spec x.replica ms in
    let got : c.in-Ok.got ≡ own_got ms x =
    c.in-Ok.ensures.got x.replica.n x.replica.log spec named ms [] says begun.1
    ∙ ap (λ k. got_whole x.replica.log spec named ms (own_page k x.replica.log ∷ [])) me in
    let spelt = subst FitsGot got c.in-Ok.ensures.fits in
    let fit = subst (λ r. c.in-Ok-may_go_on.fits ≡ begins_fitting r (all_told ms x)) got
    (c.in-Ok-may_go_on.ensures x (all_told ms x) s (subst (λ r. CanBegin r x) (sym got) (suspect_can law ms x sound begun.0 spelt)) (sent_alike law ms x sound begun.0)) in
    let fitting : begins_fitting (own_got ms x) (all_told ms x) ≡ true = sym fit ∙ c.if-not-fits.false in
    let held = subst (λ k. CollectStands x.replica.log spec named ms (own_page k x.replica.log ∷ []) c.take_own.new.self) me
    (c.in-Ok.ensures.state x.replica.n x.replica.log spec named ms [] says begun.1) in
    let sent = c.in-Ok-suspend_all.ensures x s in
    let can = suspect_goes_on law ms x sound begun.0 spelt fitting in
    let gone = made (all_told ms x) ms (own_pages ms x) sent (suspect_gathers law ms x sound begun.0 c.take_own.new.self held)
    (subst (λ k. CanGoOn k (own_pages ms x) c.in-Ok.got (all_told ms x)) (sym me) (subst (λ r. CanGoOn x.replica.me (own_pages ms x) r (all_told ms x)) (sym got) can)) in
    let rule = suspect_is law ms x sound begun.0 in
    is_whole c.go_on.new.state x _ (suspect_fitting law ms x sound begun.0 ∙ fitting)
    (subst (λ y. ReplicaStands c.go_on.new.state y) (sym rule)
    (subst (λ r. ReplicaStands c.go_on.new.state (on_got ms (own_pages ms x) r (noting (Coordinator.Collecting ms (own_pages ms x)) (all_told ms x)))) got gone))) c.go_on.ensures
