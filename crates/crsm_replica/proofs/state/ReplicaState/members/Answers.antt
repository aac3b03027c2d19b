use Rattle.std.proofs.Common.{ap, ◌∙◌}
use Rattle.std.proofs.lemmas.Result.{IfOk-weaker}
use Rattle.crsm_replica.specs.Replica.{ReplicaStands}
use Rattle.crsm_spec.specs.Replica.{members_of}
use Rattle.crsm_fact_log.proofs.Known.{known-members}
use Rattle.crsm_replica.proofs.state.ReplicaState.members.Goals as goal

pub returns : goal.returns
unfolding ReplicaStands members_of
returns c x s =
    IfOk-weaker c.copy.result _ _ (λ _ is. is ∙ ap (λ d. d.members) (c.known.ensures.value x.replica.me x.replica.n x.replica.log s.ledger) ∙ known-members x.replica.n x.replica.log) c.copy.ensures
