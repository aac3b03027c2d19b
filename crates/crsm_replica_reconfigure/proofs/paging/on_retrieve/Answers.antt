use Rattle.std.proofs.Common.{sym, subst, arith}
use Rattle.std.proofs.lemmas.Result.{IfOk-weaker}
use Rattle.crsm_replica.specs.Replica.{ReplicaStands}
use Rattle.crsm_replica_reconfigure.specs.Rules.{send_executed}
use Rattle.crsm_replica_reconfigure.proofs.PageLemmas.{retrieve_old, retrieve_more, retrieve_same}
use Rattle.crsm_replica_reconfigure.proofs.paging.on_retrieve.Goals as goal

pub returns-then-known-own : goal.returns-then-known-own
returns-then-known-own c =
    IfOk-weaker c.send_decision.result _ _ (λ _ made x s.
    subst (λ y. ReplicaStands c.send_decision.new.self y) (sym (retrieve_old c.args.k c.args.known c.args.from x (let e = c.known-own.ensures x s in let l = c.if-known-own.true in omega (arith, e, l)))) (made x s)) c.send_decision.ensures

pub returns-then-own-known : goal.returns-then-own-known
returns-then-own-known c =
    IfOk-weaker c.send_retrieve.result _ _ (λ _ made x s.
    subst (λ y. ReplicaStands c.send_retrieve.new.self y) (sym (retrieve_more c.args.k c.args.known c.args.from x (let e = c.known-own.ensures x s in let l = c.if-own-known.true in omega (arith, e, l))))
    (made (send_executed c.args.k c.args.from x) (c.in_ok-send_page.ensures x s))) c.send_retrieve.ensures

pub returns : goal.returns
returns c = λ x s.
    subst (λ y. ReplicaStands c.send_page.new.state y)
    (sym (retrieve_same c.args.k c.args.known c.args.from x (let e = c.known-own.ensures x s in let l = c.if-own-known.false in let m = c.if-known-own.false in omega (arith, e, l, m)))) (c.in_ok-send_page.ensures x s)
