use Rattle.std.proofs.Common.{ap, ◌∙◌}
use Rattle.crsm_replica.specs.Replica.{ReplicaStands}
use Rattle.crsm_fact_log.proofs.Known.{known-epoch}
use Rattle.crsm_replica.proofs.state.ReplicaState.known.Goals as goal

pub returns : goal.returns
unfolding ReplicaStands
returns c x s = ap (λ d. d.epoch) (c.known.ensures.value x.replica.me x.replica.n x.replica.log s.ledger) ∙ known-epoch x.replica.n x.replica.log
