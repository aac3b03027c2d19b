use Rattle.std.proofs.Common.{◌∙◌, subst}
use Rattle.std.proofs.lemmas.Result.{IfOk-weaker}
use Rattle.crsm_spec.specs.Draft.{send_to_each, send_to_all}
use Rattle.crsm_replica.specs.Replica.{ReplicaStands}
use Rattle.crsm_replica.proofs.state.ReplicaState.send_to_all.Goals as goal

pub returns : goal.returns
unfolding send_to_all
returns c =
    IfOk-weaker c.send_to_each.result _ _ (λ _ is x s.
    subst (λ ks. ReplicaStands c.send_to_each.new.self (send_to_each ks c.args.control.now x)) (c.deref.ensures.value ∙ c.in_ok-others.ensures.value x s)
    (is x s)) c.send_to_each.ensures
