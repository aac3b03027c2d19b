use Rattle.crsm_replica_reconfigure.proofs.telling.tell_all.Goals as goal

pub returns : goal.returns
returns c = c.send_to_all-sent.ensures
