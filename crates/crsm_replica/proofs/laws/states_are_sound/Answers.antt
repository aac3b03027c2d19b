use Rattle.crsm_replica.specs.Replica.{ReplicaStands}
use Rattle.crsm_replica.proofs.laws.states_are_sound.Goals as goal

pub returns : goal.returns
unfolding ReplicaStands
returns c = λ state x s. s.sound
