use Rattle.std.proofs.Common.{◌≡◌, ap}
use Rattle.std.specs.Prelude.{None, Err}
use Rattle.std.proofs.lemmas.Result.{IfOk-weaker}
use Rattle.crsm_wire.specs.declared.fault.WireError.{WireError}
use Rattle.crsm_base.specs.MessageReading.{control_of}
use Rattle.crsm_spec.specs.Controls.{on_control}
use Rattle.crsm_spec.specs.Step.{on_whole_message}
use Rattle.crsm_core.proofs.Fitting.{left}
use Rattle.crsm_core.proofs.StepLemmas.{fitted_as, no_message, a_message}
use Rattle.crsm_core.proofs.parts.on_message.Goals as goal

pub handle-requires : goal.handle-requires
handle-requires c = record { from = c.requires; spelt = c.in-Ok.ensures.found.fits }

pub returns-in-Ok : goal.returns-in-Ok
returns-in-Ok c =
    IfOk-weaker c.handle.result _ _ (λ _ made x s n.
    fitted_as c.handle.new.state x (on_control c.args.from c.in-Ok.control x) (on_whole_message c.args.from (control_of c.args.bytes.now) x)
    (a_message c.args.from c.args.bytes.now c.in-Ok.control x c.in-Ok.ensures.value) (made x s n)) c.handle.ensures

pub returns-in-Err-NotOne : goal.returns-in-Err-NotOne
returns-in-Err-NotOne c = λ x s n.
    let none : control_of c.args.bytes.now ≡ None = c.in-Err-NotOne.ensures.none (ap (λ (e : WireError). Err e) c.in-Err-NotOne.field-0-is) in
    left c.args.state.now x (on_whole_message c.args.from (control_of c.args.bytes.now) x) (no_message c.args.from c.args.bytes.now x none) s
