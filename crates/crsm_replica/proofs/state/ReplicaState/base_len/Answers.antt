use Rattle.std.proofs.Common.{ap, ◌∙◌}
use Rattle.crsm_replica.specs.Replica.{ReplicaStands}
use Rattle.crsm_replica.proofs.Known.{known-base}
use Rattle.crsm_replica.proofs.state.ReplicaState.base_len.Goals as goal

pub returns : goal.returns
unfolding ReplicaStands
returns c x s = ap (λ d. d.base_len) (c.known.ensures.value x.replica.me x.replica.n x.replica.log s.ledger) ∙ known-base x.replica.n x.replica.log
