use Rattle.crsm_base.specs.Parser.{many_at}
use Rattle.crsm_state.specs.Rows.{key_row_at}
use Rattle.crsm_state.proofs.Loops.{goes_on}
use Rattle.crsm_state.proofs.key_rows.take_many_rows.Goals as goal

pub loop-preserved : goal.loop-preserved
loop-preserved c =
    let read = rw c.in-Some.is at c.in-Ok-take_key_row.ensures in
    rw c.in-Ok-push.ensures.ok (goes_on key_row_at c.loop.rows c.args.count c.loop.counter c.loop.rest.now c.in-Some.row c.in-Some.after.now (many_at key_row_at c.args.count c.args.bytes.now) c.loop-test.true read c.loop.invariant)
