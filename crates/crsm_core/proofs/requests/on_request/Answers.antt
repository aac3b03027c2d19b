use Rattle.std.proofs.Common.{◌≡◌, ◌∙◌, sym}
use Rattle.std.specs.Prelude.{Some, None}
use Rattle.std.proofs.lemmas.Result.{IfOk-weaker}
use Rattle.crsm_spec.specs.Clients.{refusal, refuse, submit, on_request}
use Rattle.crsm_spec.specs.Draft.{would}
use Rattle.crsm_core.proofs.Fitting.{kept, left}
use Rattle.crsm_core.proofs.StepLemmas.{fitted_as}
use Rattle.crsm_core.proofs.RequestLemmas.{refused, no_time, submits}
use Rattle.crsm_core.proofs.requests.on_request.Goals as goal

pub returns-in-Some : goal.returns-in-Some
returns-in-Some c =
    IfOk-weaker c.refuse.result _ _ (λ _ made x s.
    let why : Some c.in-Some.why ≡ refusal x.replica = sym c.in-Some.is ∙ c.refusal.ensures x s in
    kept c.refuse.new.self x (on_request c.args.address c.args.command.now c.args.reading x) (refuse c.args.address c.args.command.now c.in-Some.why x)
    c.states_are_sound.ensures (refused c.args.address c.args.command.now c.args.reading x c.in-Some.why why) (made x s)) c.refuse.ensures

pub returns-in_default-would : goal.returns-in_default-would
returns-in_default-would c = λ x s.
    let none : None ≡ refusal x.replica = sym c.in_default.is ∙ c.refusal.ensures x s in
    let timeless : None ≡ would x c.args.reading = sym c.in_default-would.is ∙ c.would.ensures x s in
    left c.args.state.now x (on_request c.args.address c.args.command.now c.args.reading x) (no_time c.args.address c.args.command.now c.args.reading x none timeless) s

pub returns : goal.returns
returns c =
    IfOk-weaker c.submit.result _ _ (λ _ made x s.
    let none : None ≡ refusal x.replica = sym c.in_default.is ∙ c.refusal.ensures x s in
    let next : Some c.in-Some-would.time ≡ would x c.args.reading = sym c.in-Some-would.is ∙ c.would.ensures x s in
    fitted_as c.submit.new.state x (submit c.args.address c.args.command.now c.in-Some-would.time x) (on_request c.args.address c.args.command.now c.args.reading x)
    (submits c.args.address c.args.command.now c.args.reading c.in-Some-would.time x none next) (made x c.args.reading s (sym next))) c.submit.ensures
