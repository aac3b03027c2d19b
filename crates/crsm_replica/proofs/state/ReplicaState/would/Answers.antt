use Rattle.crsm_replica.specs.Replica.{ReplicaStands}
use Rattle.crsm_spec.specs.Draft.{would}
use Rattle.crsm_replica.proofs.state.ReplicaState.would.Goals as goal

pub returns : goal.returns
unfolding ReplicaStands would
returns c x s = c.would.ensures x.replica s.epoch_state
