use Rattle.crsm_sim_schedule.proofs.ReadLines.{read_as}
use Rattle.crsm_sim_schedule.proofs.handling.read_and_do.Goals as goal

pub returns-clause-ok : goal.returns-clause-ok
returns-clause-ok g c s at good here =
    c.do_event.ensures.ok c.args.line.now (read_as c.args.line.now c.read_event-read.result c.read_event-read.ensures.found c.read_event-read.ensures.only) s at good here

pub returns-clause-err : goal.returns-clause-err
returns-clause-err g c s good here =
    c.do_event.ensures.err c.args.line.now (read_as c.args.line.now c.read_event-read.result c.read_event-read.ensures.found c.read_event-read.ensures.only) s good here
