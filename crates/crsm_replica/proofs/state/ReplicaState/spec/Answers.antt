use Rattle.crsm_replica.specs.Replica.{ReplicaStands}
use Rattle.crsm_spec.specs.Replica.{spec_of}
use Rattle.crsm_replica.proofs.state.ReplicaState.spec.Goals as goal

pub returns : goal.returns
unfolding ReplicaStands spec_of
returns c x s = c.spec.ensures x.replica.me x.replica.n x.replica.log s.ledger
