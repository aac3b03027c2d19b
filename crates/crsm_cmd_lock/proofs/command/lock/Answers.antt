use Rattle.crsm_cmd_lock.proofs.Answered.{missed, took_answers}
use Rattle.crsm_cmd_lock.proofs.Following.{writes}
use Rattle.crsm_cmd_lock.proofs.command.lock.Goals as goal

pub returns-in-Ok-clause-ran : goal.returns-in-Ok-clause-ran
returns-in-Ok-clause-ran g c =
    writes c.args.order.now (g.P.Port.meaning c.args.port.now) (g.P.Port.meaning c.learn.new.port) c.in-Ok.told (g.O.Sink.written c.args.output.now) (g.O.Sink.written c.write_told.new.output)
    c.write_told.result c.in-Ok.ensures c.write_told.ensures.wrote

pub returns-in-Ok-clause-no_answer : goal.returns-in-Ok-clause-no_answer
returns-in-Ok-clause-no_answer g c = λ t u is at none no_fault no_loss.
    absurd (none (took_answers c.args.order.now (g.P.Port.meaning c.args.port.now) (g.P.Port.meaning c.learn.new.port) c.in-Ok.told t u is at c.in-Ok.ensures))

pub returns-in-Err-NoAnswer-clause-complete : goal.returns-in-Err-NoAnswer-clause-complete
returns-in-Err-NoAnswer-clause-complete g c = λ t u is at all no_fault no_loss none.
    missed c.locks_have_one_value.ensures.one c.args.order.now (g.P.Port.meaning c.args.port.now) (g.P.Port.meaning c.learn.new.port) t u is at all
    (rw (c.in-Err-NoAnswer.is, c.in-Err-NoAnswer.field-0-is) at c.learn.ensures)
