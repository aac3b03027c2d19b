use Rattle.std.proofs.Common.{◌∷◌}
use Rattle.crsm_replica.specs.Replica.{ReplicaStands}
use Rattle.crsm_replica.proofs.Rebuilt.{ran}
use Rattle.crsm_replica.proofs.state.ReplicaState.acked.Goals as goal

pub returns : goal.returns
unfolding ReplicaStands
returns c x s most =
    let r = x.replica in
    ran c.args.self.now x c.acked.new.self r.issued r.received r.votes r.owed r.pushed ((c.args.k, c.args.next) ∷ r.acked) r.taken s
    (c.acked.ensures x.replica s.epoch_state most) s.sound.owed s.sound.pushed
