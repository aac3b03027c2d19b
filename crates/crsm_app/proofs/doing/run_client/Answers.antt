use Rattle.crsm_app.proofs.Asking.{completes, is_port_fault, is_unanswered, is_write_fault}
use Rattle.crsm_app.proofs.doing.run_client.Goals as goal

pub returns-clause-did : goal.returns-clause-did
returns-clause-did g c = record { ended = c.client.result; status = c.client_status.ensures; ran = c.client.ensures.ran }

pub returns-clause-exact : goal.returns-clause-exact
returns-clause-exact g c = record {
  complete = λ t u is at took no_fault no_loss no_write.
      completes c.client.result c.client_status.result c.client_status.ensures (c.client.ensures.complete t u is at took no_fault no_loss no_write);
  no_answer = λ t u is at none no_fault no_loss.
      is_unanswered c.client.result c.client_status.result c.client_status.ensures (c.client.ensures.no_answer t u is at none no_fault no_loss);
}

pub returns-clause-write_fault : goal.returns-clause-write_fault
returns-clause-write_fault g c = λ fault. c.client.ensures.write (is_write_fault c.client.result c.client_status.result c.client_status.ensures fault)

pub returns-clause-port_fault : goal.returns-clause-port_fault
returns-clause-port_fault g c = is_port_fault c.client.result c.client_status.result c.client_status.ensures c.args.cluster c.args.order.now _ _ _ _ c.client.ensures.ran
