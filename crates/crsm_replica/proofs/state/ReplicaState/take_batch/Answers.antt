use Rattle.crsm_replica.specs.Replica.{ReplicaStands}
use Rattle.crsm_replica_output.specs.Made.{made_of}
use Rattle.crsm_replica.proofs.Rebuilt.{begun_again}
use Rattle.crsm_replica.proofs.state.ReplicaState.take_batch.Goals as goal

pub returns : goal.returns
unfolding ReplicaStands
returns c x s = (c.in_ok-batch.ensures.batch (made_of x) s.output, begun_again c.args.self.now x c.take.new.self s c.in_ok-batch.ensures.nothing)
