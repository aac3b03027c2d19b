use Rattle.std.proofs.Common.{sym, ◌∙◌}
use Rattle.crsm_replica.specs.Replica.{ReplicaStands}
use Rattle.crsm_replica.proofs.state.ReplicaState.waits_on.Goals as goal

pub returns : goal.returns
unfolding ReplicaStands
returns c is x s =
    (c.has_no_answer.ensures x.replica.me x.replica.n x.replica.log s.ledger s.sound.rises is, sym (c.has_dropped.ensures x.replica s.ledger) ∙ c.if-has_dropped.false)
