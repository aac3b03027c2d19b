use Rattle.crsm_replica_detector.proofs.Appended.{empty_append, replica_append, watch_append, wished_append}
use Rattle.crsm_replica_detector.proofs.laws.turns_append.Goals as goal

pub returns-clause-wished : goal.returns-clause-wished
returns-clause-wished c = wished_append

pub returns-clause-empty : goal.returns-clause-empty
returns-clause-empty c = empty_append

pub returns-clause-watch : goal.returns-clause-watch
returns-clause-watch c = watch_append

pub returns-clause-replica : goal.returns-clause-replica
returns-clause-replica c = replica_append
