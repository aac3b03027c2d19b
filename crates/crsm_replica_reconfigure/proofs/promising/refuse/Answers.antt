use Rattle.crsm_replica_reconfigure.proofs.promising.refuse.Goals as goal

pub returns : goal.returns
returns c = c.tell.ensures
