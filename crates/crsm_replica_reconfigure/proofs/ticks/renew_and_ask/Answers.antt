use Rattle.std.proofs.Common.{◌≡◌, ◌∙◌, sym, true, false}
use Rattle.std.proofs.lemmas.Result.{IfOk-weaker}
use Rattle.crsm_spec.specs.Draft.{Draft}
use Rattle.crsm_spec.specs.Step.{ask_all, renew}
use Rattle.crsm_replica_reconfigure.proofs.DraftLemmas.{is_whole, is_ignored, was_whole, was_ignored}
use Rattle.crsm_replica_reconfigure.proofs.RenewLemmas.{asked_all_fitting}
use Rattle.crsm_replica_reconfigure.proofs.ticks.renew_and_ask.Goals as goal

pub returns-then-not-fits : goal.returns-then-not-fits
returns-then-not-fits c = λ x s.
    let both = c.in_ok-fits.ensures x s in
    let y : Draft = renew x.replica.coordinator x in
    let u : y.fitting ≡ false = sym both.0 ∙ c.if-not-fits.true in
    is_ignored c.renew.new.state x (ask_all y) (asked_all_fitting y ∙ u) (was_ignored c.renew.new.state x y u both.1)

pub returns : goal.returns
returns c =
    IfOk-weaker c.ask_all.result _ _ (λ _ made x s.
    let both = c.in_ok-fits.ensures x s in
    let y : Draft = renew x.replica.coordinator x in
    let u : y.fitting ≡ true = sym both.0 ∙ c.if-not-fits.false in
    is_whole c.ask_all.new.state x (ask_all y) (asked_all_fitting y ∙ u) (made y (was_whole c.renew.new.state x y u both.1))) c.ask_all.ensures
