use Rattle.std.proofs.Common.{◌∷◌}
use Rattle.crsm_replica.specs.Replica.{ReplicaStands}
use Rattle.crsm_replica.proofs.Rebuilt.{ran}
use Rattle.crsm_replica.proofs.state.ReplicaState.take_next.Goals as goal

pub returns : goal.returns
unfolding ReplicaStands
returns c x s other above =
    let r = x.replica in
    ran c.args.self.now x c.take_next.new.self r.issued ((c.args.k, c.args.time) ∷ r.received) r.votes r.owed r.pushed r.acked (c.args.k ∷ r.taken) s
    (c.take_next.ensures x.replica s.epoch_state above) s.sound.owed s.sound.pushed
