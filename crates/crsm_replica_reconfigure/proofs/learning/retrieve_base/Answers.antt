use Rattle.std.proofs.Common.{sym, subst}
use Rattle.std.proofs.lemmas.Result.{IfOk-weaker}
use Rattle.crsm_replica.specs.Replica.{ReplicaStands}
use Rattle.crsm_replica_reconfigure.proofs.DraftLemmas.{base_is, base_no}
use Rattle.crsm_replica_reconfigure.proofs.learning.retrieve_base.Goals as goal

pub returns-then-done-base_len : goal.returns-then-done-base_len
returns-then-done-base_len c =
    IfOk-weaker c.send_retrieve.result _ _ (λ _ made x s.
    subst (λ y. ReplicaStands c.send_retrieve.new.self y)
    (sym (base_is c.args.k x c.executed_len-done.result c.base_len-base_len.result (c.executed_len-done.ensures x s) (c.base_len-base_len.ensures x s) c.if-done-base_len.true)) (made x s)) c.send_retrieve.ensures

pub returns : goal.returns
returns c = λ x s.
    subst (λ y. ReplicaStands c.args.state.now y)
    (sym (base_no c.args.k x c.executed_len-done.result c.base_len-base_len.result (c.executed_len-done.ensures x s) (c.base_len-base_len.ensures x s) c.if-done-base_len.false)) s
