use Rattle.std.proofs.Common.{◌≡◌, ◌∙◌, ◌<◌, ◌^◌, sym, true, false, arith}
use Rattle.std.specs.Prelude.{Some}
use Rattle.std.proofs.lemmas.Result.{IfOk-weaker}
use Rattle.crsm_spec.specs.Types.{InEpoch}
use Rattle.crsm_spec.specs.Log.{active}
use Rattle.crsm_spec.specs.Draft.{would, push_to_members, issued_at}
use Rattle.crsm_spec.specs.Frames.{is_idle, idle}
use Rattle.crsm_core.proofs.Fitting.{stands_as}
use Rattle.crsm_core.proofs.TickLemmas.{not_active, not_idle, no_time, sends_control}
use Rattle.crsm_core.proofs.idle.idle.Goals as goal

pub returns-then-not-is_active : goal.returns-then-not-is_active
returns-then-not-is_active c = λ x s.
    let a : active x.replica.log ≡ false = cc (c.is_active.ensures x s) in
    stands_as c.args.state.now x (idle c.args.reading x) (not_active c.args.reading x a) s

pub returns-then-not-is_idle : goal.returns-then-not-is_idle
returns-then-not-is_idle c = λ x s.
    let a : active x.replica.log ≡ true = cc (c.is_active.ensures x s) in
    let h : is_idle x.replica c.args.reading ≡ false = cc (c.is_idle.ensures x s) in
    stands_as c.args.state.now x (idle c.args.reading x) (not_idle c.args.reading x a h) s

pub returns-in_default : goal.returns-in_default
returns-in_default c = λ x s.
    let a : active x.replica.log ≡ true = cc (c.is_active.ensures x s) in
    let h : is_idle x.replica c.args.reading ≡ true = cc (c.is_idle.ensures x s) in
    stands_as c.args.state.now x (idle c.args.reading x) (no_time c.args.reading x a h (sym c.in_default.is ∙ c.would.ensures x s)) s

pub returns : goal.returns
returns c =
    IfOk-weaker c.push_at.result _ _ (λ _ made x s.
    let a : active x.replica.log ≡ true = cc (c.is_active.ensures x s) in
    let h : is_idle x.replica c.args.reading ≡ true = cc (c.is_idle.ensures x s) in
    let time = c.in-Some.time in
    let next : Some time ≡ would x c.args.reading = sym c.in-Some.is ∙ c.would.ensures x s in
    let below : time < 2 ^ 64 = omega arith in
    stands_as c.push_at.new.self (push_to_members (InEpoch.ClockTime time) (issued_at time x)) (idle c.args.reading x) (sends_control c.args.reading time x a h next)
    (made x c.args.reading s below (sym next))) c.push_at.ensures
