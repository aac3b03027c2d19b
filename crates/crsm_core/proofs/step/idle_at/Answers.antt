use Rattle.std.proofs.Common.{◌∙◌, ap, sym}
use Rattle.std.proofs.lemmas.Result.{IfOk-weaker}
use Rattle.crsm_spec.specs.Step.{idle_at}
use Rattle.crsm_spec.specs.Frames.{idle}
use Rattle.crsm_core.specs.declared.input.Input.{Input}
use Rattle.crsm_core.specs.Inputs.{input_of}
use Rattle.crsm_core.proofs.Fitting.{stands_as}
use Rattle.crsm_core.proofs.StepLemmas.{idle_then, not_then, nor_then}
use Rattle.crsm_core.proofs.step.idle_at.Goals as goal

pub returns-in-Tick : goal.returns-in-Tick
returns-in-Tick c =
    IfOk-weaker c.idle.result _ _ (λ _ k x s.
    stands_as c.idle.new.state (idle c.args.reading x) (idle_at (input_of c.args.input.now) c.args.reading x)
    (idle_then c.args.reading x ∙ ap (λ (i : Input). idle_at (input_of i) c.args.reading x) (sym c.in-Tick.is)) (k x s)) c.idle.ensures

pub returns-in-Datagram : goal.returns-in-Datagram
returns-in-Datagram c = λ x s.
    stands_as c.args.state.now x (idle_at (input_of c.args.input.now) c.args.reading x)
    (not_then c.in-Datagram.from c.args.reading c.in-Datagram.datagram x ∙ ap (λ (i : Input). idle_at (input_of i) c.args.reading x) (sym c.in-Datagram.is)) s

pub returns-in-Suspect : goal.returns-in-Suspect
returns-in-Suspect c = λ x s.
    stands_as c.args.state.now x (idle_at (input_of c.args.input.now) c.args.reading x)
    (nor_then c.args.reading c.in-Suspect.members x ∙ ap (λ (i : Input). idle_at (input_of i) c.args.reading x) (sym c.in-Suspect.is)) s
