use Rattle.crsm_delay.specs.declared.handling.Wanted.{Wanted}
use Rattle.crsm_app.proofs.PlanEnds.{completes, did_so, is_done, is_long, is_no_disk, is_no_port, is_read_fault, is_too_long, is_write_fault, refuses}
use Rattle.crsm_app.proofs.doing.run_delay.Goals as goal

pub returns-clause-did : goal.returns-clause-did
returns-clause-did g c = did_so Wanted.Schedule c.delay.result c.delay_status.result c.delay_status.ensures _ _ _ _ c.delay.ensures.ran

pub returns-clause-read_fault : goal.returns-clause-read_fault
returns-clause-read_fault g c = λ e. c.delay.ensures.read_fault (is_read_fault Wanted.Schedule c.delay.result c.delay_status.result c.delay_status.ensures e)

pub returns-clause-write_fault : goal.returns-clause-write_fault
returns-clause-write_fault g c = λ e. c.delay.ensures.write_fault (is_write_fault Wanted.Schedule c.delay.result c.delay_status.result c.delay_status.ensures e)

pub returns-clause-exact : goal.returns-clause-exact
returns-clause-exact g c = λ no_read no_write.
    let x = c.plans_are_exact.ensures Wanted.Schedule in
    let exactly = c.delay.ensures.exactly in
    record {
      decided = x;
      complete = λ lines fit may are is short.
          completes Wanted.Schedule c.delay.result c.delay_status.result c.delay_status.ensures (exactly.complete x lines fit may are is short no_read no_write);
      refused = λ lines shown text more why fit are is bad short.
          refuses Wanted.Schedule c.delay.result c.delay_status.result c.delay_status.ensures x _ _ (exactly.refused x lines shown text more why fit are is bad short no_read no_write);
      too_long = λ lines rest more fit are part long some is.
          is_too_long Wanted.Schedule c.delay.result c.delay_status.result c.delay_status.ensures (exactly.too_long x lines rest more fit are part long some is no_read no_write);
    }

pub returns-clause-limit : goal.returns-clause-limit
returns-clause-limit g c = λ bytes is long e. c.delay.ensures.limit bytes is long (is_done Wanted.Schedule c.delay.result c.delay_status.result c.delay_status.ensures e)

pub returns-clause-within : goal.returns-clause-within
returns-clause-within g c = λ bytes is short e. c.delay.ensures.within bytes is short (is_long Wanted.Schedule c.delay.result c.delay_status.result c.delay_status.ensures e)

pub returns-clause-no_port : goal.returns-clause-no_port
returns-clause-no_port g c = is_no_port Wanted.Schedule c.delay.result c.delay_status.result c.delay_status.ensures

pub returns-clause-no_disk : goal.returns-clause-no_disk
returns-clause-no_disk g c = is_no_disk Wanted.Schedule c.delay.result c.delay_status.result c.delay_status.ensures
