use Rattle.std.proofs.Common.{◌≡◌, ◌∙◌, ap, subst, length}
use Rattle.std.proofs.lemmas.Result.{IfOk-weaker}
use Rattle.crsm_spec.specs.Types.{Control}
use Rattle.crsm_spec.specs.Log.{known, executed}
use Rattle.crsm_spec.specs.Draft.{send_control, retrieve, send_retrieve}
use Rattle.crsm_fact_log.proofs.Known.{known-epoch}
use Rattle.crsm_replica.specs.Replica.{ReplicaStands}
use Rattle.crsm_replica.proofs.state.ReplicaState.send_retrieve.Goals as goal

pub returns : goal.returns
unfolding ReplicaStands send_retrieve retrieve
returns c =
    IfOk-weaker c.tell.result _ _ (λ _ said x s.
    let r = x.replica in
    let now : c.known.result.now.epoch ≡ known r.log = ap (λ d. d.epoch) (c.known.ensures.value r.me r.n r.log s.ledger) ∙ known-epoch r.n r.log in
    let done : c.executed_len-from.result ≡ length (executed r.log) = c.executed_len-from.ensures.value r.me r.n r.log s.ledger in
    subst (λ n. ReplicaStands c.tell.new.self (send_control (Control.Retrieve (known r.log) n) x c.args.k)) done
    (subst (λ e. ReplicaStands c.tell.new.self (send_control (Control.Retrieve e c.executed_len-from.result) x c.args.k)) now (said x s))) c.tell.ensures
