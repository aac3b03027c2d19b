use Rattle.std.proofs.Common.{refl, sym, subst}
use Rattle.crsm_spec.specs.Draft.{begun}
use Rattle.crsm_core.specs.Inputs.{input_of}
use Rattle.crsm_replica_rerun.proofs.Cores.{Steps, as_turn, turn_nothing}
use Rattle.crsm_replica_rerun.proofs.step.come.Goals as goal

pub returns-in-Ok : goal.returns-in-Ok
unfolding input_of
returns-in-Ok c =
    as_turn c.step.result c.args.core.now c.step.new.core c.args.address c.args.reading c.args.bytes.now c.in-Ok.datagram (rw c.in-Ok.is at c.read_datagram.ensures.value) c.step.ensures

pub returns-in-Err-NotOne : goal.returns-in-Err-NotOne
unfolding begun
returns-in-Err-NotOne c r stands =
    subst (Steps c.args.core.now c.nothing.result) (sym (turn_nothing r c.args.address c.args.reading c.args.bytes.now (rw (c.in-Err-NotOne.is, c.in-Err-NotOne.field-0-is) at c.read_datagram.ensures.none refl)))
    (c.nothing.ensures.answers r, stands)
