use Rattle.std.proofs.Common.{◌∷◌}
use Rattle.std.proofs.lemmas.Result.{IfOk-weaker}
use Rattle.crsm_replica.specs.Replica.{ReplicaStands}
use Rattle.crsm_spec.specs.Draft.{count_vote}
use Rattle.crsm_replica.proofs.Rebuilt.{ran}
use Rattle.crsm_replica.proofs.state.ReplicaState.count_vote.Goals as goal

pub returns : goal.returns
unfolding ReplicaStands count_vote
returns c =
    IfOk-weaker c.count_vote.result _ _ (λ _ is x s.
    let r = x.replica in
    ran c.args.self.now x c.count_vote.new.self r.issued r.received ((c.args.stamp, c.args.k) ∷ r.votes) r.owed r.pushed r.acked r.taken s
    (is x.replica s.epoch_state (c.last_stamp-last.ensures.value x.replica.me x.replica.n x.replica.log s.ledger)) s.sound.owed s.sound.pushed) c.count_vote.ensures
