use Rattle.std.proofs.Common.{◌∙◌, sym, subst}
use Rattle.std.proofs.lemmas.Result.{IfOk-weaker}
use Rattle.crsm_replica.specs.Replica.{ReplicaStands}
use Rattle.crsm_replica_reconfigure.proofs.ProposeLemmas.{active_asks, all_asked}
use Rattle.crsm_replica_reconfigure.proofs.sending.ask_all.Goals as goal

pub returns-then-is_active : goal.returns-then-is_active
returns-then-is_active c = λ x s. subst (λ y. ReplicaStands c.args.state.now y) (sym (active_asks x (sym (c.is_active-is_active.ensures x s) ∙ c.if-is_active.true))) s

pub returns : goal.returns
returns c =
    IfOk-weaker c.tell_all.result _ _ (λ _ made x s.
    subst (λ y. ReplicaStands c.tell_all.new.state y)
    (all_asked x c.known-known.result c.executed_len-from.result (sym (c.is_active-is_active.ensures x s) ∙ c.if-is_active.false) (c.known-known.ensures x s) (c.executed_len-from.ensures x s))
    (made x s)) c.tell_all.ensures
