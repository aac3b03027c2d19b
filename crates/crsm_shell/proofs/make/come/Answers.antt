use Rattle.std.proofs.Common.{◌∙◌, refl, sym, subst}
use Rattle.std.proofs.lemmas.Result.{IfOk-weaker}
use Rattle.crsm_spec.specs.Draft.{begun}
use Rattle.crsm_core.specs.Inputs.{input_of}
use Rattle.crsm_shell.proofs.Making.{Steps, as_turn, heard_came, heard_nothing, turn_nothing}
use Rattle.crsm_shell.proofs.make.come.Goals as goal

pub returns-in-Ok-clause-step : goal.returns-in-Ok-clause-step
unfolding input_of
returns-in-Ok-clause-step c = as_turn c.step.result c.args.core.now _ c.args.from c.args.reading c.args.bytes.now c.in-Ok.datagram (rw c.in-Ok.is at c.read_datagram.ensures.value) c.step.ensures.step

pub returns-in-Err-NotOne-clause-step : goal.returns-in-Err-NotOne-clause-step
unfolding begun
returns-in-Err-NotOne-clause-step c r stands =
    subst (Steps c.args.core.now c.nothing.result.batch) (sym (turn_nothing r c.args.from c.args.reading c.args.bytes.now (rw (c.in-Err-NotOne.is, c.in-Err-NotOne.field-0-is) at c.read_datagram.ensures.none refl)))
    (c.nothing.ensures.step r, stands)

pub returns-in-Ok-clause-received : goal.returns-in-Ok-clause-received
returns-in-Ok-clause-received c =
    let came = heard_came c.args.from c.args.bytes.now c.in-Ok.datagram (rw c.in-Ok.is at c.read_datagram.ensures.value) in
    IfOk-weaker c.step.result _ _ (λ made is. is ∙ c.sender_of-received.ensures ∙ sym came) c.step.ensures.received

pub returns-in-Err-NotOne-clause-received : goal.returns-in-Err-NotOne-clause-received
returns-in-Err-NotOne-clause-received c =
    c.nothing.ensures.received ∙ sym (heard_nothing c.args.from c.args.bytes.now (rw (c.in-Err-NotOne.is, c.in-Err-NotOne.field-0-is) at c.read_datagram.ensures.none refl))
