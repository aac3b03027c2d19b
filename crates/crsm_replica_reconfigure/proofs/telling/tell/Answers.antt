use Rattle.crsm_replica_reconfigure.proofs.telling.tell.Goals as goal

pub returns : goal.returns
returns c = c.send_control-sent.ensures
