use Rattle.std.proofs.Common.{◌≡◌, true, false}
use Rattle.std.proofs.lemmas.Result.{IfOk-weaker}
use Rattle.crsm_spec.specs.Log.{active}
use Rattle.crsm_spec.specs.Frames.{send_again}
use Rattle.crsm_spec.specs.Step.{on_tick, ask_all, renew}
use Rattle.crsm_core.proofs.Fitting.{kept}
use Rattle.crsm_core.proofs.StepLemmas.{fitted_as}
use Rattle.crsm_core.proofs.TickLemmas.{active_tick, quiet_tick}
use Rattle.crsm_core.proofs.ticks.on_tick.Goals as goal

pub returns-then-is_active : goal.returns-then-is_active
returns-then-is_active c =
    IfOk-weaker c.send_again.result _ _ (λ _ made x s.
    let a : active x.replica.log ≡ true = cc (c.is_active.ensures x s) in
    kept c.send_again.new.state x (on_tick x) (send_again x) c.states_are_sound.ensures (active_tick x a) (made x s)) c.send_again.ensures

pub returns : goal.returns
returns c =
    IfOk-weaker c.renew_and_ask.result _ _ (λ _ made x s.
    let a : active x.replica.log ≡ false = cc (c.is_active.ensures x s) in
    fitted_as c.renew_and_ask.new.state x (ask_all (renew x.replica.coordinator x)) (on_tick x) (quiet_tick x a) (made x s)) c.renew_and_ask.ensures
