use Rattle.std.proofs.lemmas.Result.{IfOk-weaker}
use Rattle.crsm_replica.specs.Replica.{ReplicaStands}
use Rattle.crsm_spec.specs.Frames.{owe, with_stamp}
use Rattle.crsm_replica.proofs.Known.{owed-one}
use Rattle.crsm_replica.proofs.Rebuilt.{ran}
use Rattle.crsm_replica.proofs.state.ReplicaState.owe.Goals as goal

pub returns : goal.returns
unfolding ReplicaStands owe
returns c =
    IfOk-weaker c.owe.result _ _ (λ _ is x s.
    let r = x.replica in
    ran c.args.self.now x c.owe.new.self r.issued r.received r.votes (with_stamp c.args.stamp r.owed) r.pushed r.acked r.taken s
    (is x.replica s.epoch_state) (owed-one c.args.stamp r.owed c.requires s.sound.owed) s.sound.pushed) c.owe.ensures
