use Rattle.crsm_replica_reconfigure.proofs.promising.promise.Goals as goal

pub returns : goal.returns
returns c = c.keep.ensures
