use Rattle.std.proofs.Common.{subst}
use Rattle.crsm_cmd_lock.specs.Commands.{LockRan}
use Rattle.crsm_cmd_lock.specs.declared.command.LockOrder.{LockOrder}
use Rattle.crsm_app.proofs.LockEnds.{completes, is_port_fault, is_unanswered, is_write_fault}
use Rattle.crsm_app.proofs.locking.run_lock.Goals as goal

pub returns-clause-did : goal.returns-clause-did
returns-clause-did g c = record {
  ended = c.lock.result;
  status = c.lock_status.ensures;
  ran = subst (λ (o : LockOrder). LockRan o (g.P.Port.meaning c.args.port.now) (g.P.Port.meaning c.lock.new.port) (g.O.Sink.written c.args.output.now) (g.O.Sink.written c.lock.new.output) c.lock.result) c.lock_order.ensures c.lock.ensures.ran;
}

pub returns-clause-exact : goal.returns-clause-exact
returns-clause-exact g c = record {
  complete = λ t u is at all no_fault no_loss no_write.
      completes c.lock.result c.lock_status.result c.lock_status.ensures (c.lock.ensures.complete t u is at (rw c.lock_order.ensures all) no_fault no_loss no_write);
  no_answer = λ t u is at none no_fault no_loss.
      is_unanswered c.lock.result c.lock_status.result c.lock_status.ensures (c.lock.ensures.no_answer t u is at (rw c.lock_order.ensures none) no_fault no_loss);
}

pub returns-clause-write_fault : goal.returns-clause-write_fault
returns-clause-write_fault g c = λ fault. c.lock.ensures.write (is_write_fault c.lock.result c.lock_status.result c.lock_status.ensures fault)

pub returns-clause-port_fault : goal.returns-clause-port_fault
returns-clause-port_fault g c =
    is_port_fault c.lock.result c.lock_status.result c.lock_status.ensures c.lock_order.result (g.P.Port.meaning c.args.port.now) (g.P.Port.meaning c.lock.new.port)
    (g.O.Sink.written c.args.output.now) (g.O.Sink.written c.lock.new.output) c.lock.ensures.ran
