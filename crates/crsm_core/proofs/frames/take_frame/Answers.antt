use Rattle.std.proofs.Common.{◌∙◌, ap, sym}
use Rattle.std.proofs.lemmas.Result.{IfOk-weaker}
use Rattle.crsm_spec.specs.Types.{InEpoch}
use Rattle.crsm_spec.specs.Draft.{count_vote}
use Rattle.crsm_spec.specs.Frames.{take_frame, ack}
use Rattle.crsm_core.proofs.Fitting.{kept}
use Rattle.crsm_core.proofs.StepLemmas.{fitted_as}
use Rattle.crsm_core.proofs.FrameLemmas.{received_at, ok_taken, time_taken, time_above}
use Rattle.crsm_core.proofs.frames.take_frame.Goals as goal

pub returns-in-Prepare : goal.returns-in-Prepare
returns-in-Prepare c =
    IfOk-weaker c.take_prepare.result _ _ (λ _ made x s n l.
    let p : InEpoch = InEpoch.Prepare c.in-Prepare.entry in
    fitted_as c.take_prepare.new.state x (take_frame c.args.k p x) (take_frame c.args.k c.args.payload.now x) (ap (λ q. take_frame c.args.k q x) (sym c.in-Prepare.is))
    (made x s n (time_above x.replica c.args.k c.args.payload.now p c.in-Prepare.is l))) c.take_prepare.ensures

pub returns-in_ok-ack-in-PrepareOk : goal.returns-in_ok-ack-in-PrepareOk
returns-in_ok-ack-in-PrepareOk c =
    IfOk-weaker c.count_vote.result _ _ (λ _ made x s n l.
    let p : InEpoch = InEpoch.PrepareOk c.in-PrepareOk.stamp c.in-PrepareOk.at in
    let a = c.in_ok-take_next-in-PrepareOk.ensures x s n (time_above x.replica c.args.k c.args.payload.now p c.in-PrepareOk.is l) in
    let b = c.in_ok-ack-in-PrepareOk.ensures (received_at c.args.k c.in-PrepareOk.at x) a in
    let d = made (ack c.args.k (received_at c.args.k c.in-PrepareOk.at x)) b in
    kept c.count_vote.new.self x (take_frame c.args.k c.args.payload.now x) (count_vote c.in-PrepareOk.stamp c.args.k (ack c.args.k (received_at c.args.k c.in-PrepareOk.at x)))
    c.states_are_sound.ensures
    (ok_taken c.args.k c.in-PrepareOk.stamp c.in-PrepareOk.at x ∙ ap (λ q. take_frame c.args.k q x) (sym c.in-PrepareOk.is)) d) c.count_vote.ensures

pub returns-in_ok-take_next-in-ClockTime : goal.returns-in_ok-take_next-in-ClockTime
returns-in_ok-take_next-in-ClockTime c =
    IfOk-weaker c.ack-in-ClockTime.result _ _ (λ _ made x s n l.
    let p : InEpoch = InEpoch.ClockTime c.in-ClockTime.at in
    let a = c.in_ok-take_next-in-ClockTime.ensures x s n (time_above x.replica c.args.k c.args.payload.now p c.in-ClockTime.is l) in
    let b = made (received_at c.args.k c.in-ClockTime.at x) a in
    kept c.ack-in-ClockTime.new.self x (take_frame c.args.k c.args.payload.now x) (ack c.args.k (received_at c.args.k c.in-ClockTime.at x))
    c.states_are_sound.ensures
    (time_taken c.args.k c.in-ClockTime.at x ∙ ap (λ q. take_frame c.args.k q x) (sym c.in-ClockTime.is)) b) c.ack-in-ClockTime.ensures
