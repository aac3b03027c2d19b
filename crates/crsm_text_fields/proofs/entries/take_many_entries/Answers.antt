use Rattle.crsm_base.specs.Parser.{many_at}
use Rattle.crsm_base.specs.Reading.{entry_at}
use Rattle.crsm_text_fields.proofs.Loops.{goes_on}
use Rattle.crsm_text_fields.proofs.entries.take_many_entries.Goals as goal

pub loop-preserved : goal.loop-preserved
loop-preserved c =
    let read = rw c.in-Some.is at c.in-Ok-take_entry.ensures in
    rw c.in-Ok-push.ensures.ok (goes_on entry_at c.loop.entries c.args.count c.loop.counter c.loop.rest.now c.in-Some.entry c.in-Some.after.now (many_at entry_at c.args.count c.args.bytes.now) c.loop-test.true read c.loop.invariant)
