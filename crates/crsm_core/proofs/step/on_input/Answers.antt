use Rattle.std.proofs.Common.{◌∙◌, ap, sym}
use Rattle.std.proofs.lemmas.Result.{IfOk-weaker}
use Rattle.crsm_spec.specs.Step.{on_datagram, on_tick, on_input}
use Rattle.crsm_spec.specs.Coordinate.{on_suspect}
use Rattle.crsm_core.specs.declared.input.Input.{Input}
use Rattle.crsm_core.specs.Inputs.{input_of}
use Rattle.crsm_core.proofs.StepLemmas.{fitted_as, of_datagram, of_tick, of_suspicion}
use Rattle.crsm_core.proofs.step.on_input.Goals as goal

pub returns-in-Datagram : goal.returns-in-Datagram
returns-in-Datagram c =
    IfOk-weaker c.on_datagram.result _ _ (λ _ k x s.
    fitted_as c.on_datagram.new.state x (on_datagram c.in-Datagram.from c.in-Datagram.datagram c.args.reading x) (on_input (input_of c.args.input.now) c.args.reading x)
    (of_datagram c.in-Datagram.from c.args.reading c.in-Datagram.datagram x ∙ ap (λ (i : Input). on_input (input_of i) c.args.reading x) (sym c.in-Datagram.is))
    (k x s)) c.on_datagram.ensures

pub returns-in-Tick : goal.returns-in-Tick
returns-in-Tick c =
    IfOk-weaker c.on_tick.result _ _ (λ _ k x s.
    fitted_as c.on_tick.new.state x (on_tick x) (on_input (input_of c.args.input.now) c.args.reading x)
    (of_tick c.args.reading x ∙ ap (λ (i : Input). on_input (input_of i) c.args.reading x) (sym c.in-Tick.is)) (k x s)) c.on_tick.ensures

pub returns-in-Suspect : goal.returns-in-Suspect
returns-in-Suspect c =
    IfOk-weaker c.on_suspect.result _ _ (λ _ k x s.
    fitted_as c.on_suspect.new.state x (on_suspect c.in-Suspect.members x) (on_input (input_of c.args.input.now) c.args.reading x)
    (of_suspicion c.args.reading c.in-Suspect.members x ∙ ap (λ (i : Input). on_input (input_of i) c.args.reading x) (sym c.in-Suspect.is))
    (k x s)) c.on_suspect.ensures
