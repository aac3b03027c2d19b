use Rattle.std.proofs.Common.{sym, subst, arith}
use Rattle.crsm_replica.specs.Replica.{ReplicaStands}
use Rattle.crsm_replica_reconfigure.proofs.PromiseLemmas.{next_old, next_later}
use Rattle.crsm_replica_reconfigure.proofs.promising.if_next.Goals as goal

pub returns-then-instance-known : goal.returns-then-instance-known
returns-then-instance-known c = λ x s.
    let e = c.known-known.ensures x s in
    let l = c.if-instance-known.true in
    record {
      here = λ t. absurd (cc t);
      other = λ t. (λ n. absurd (omega (arith, e, l, n)), λ y. subst (λ z. ReplicaStands c.send_decision.new.self z) (sym (next_old c.args.k c.args.instance x y (omega (arith, e, l)))) (c.in_ok-send_decision.ensures x s));
    }

pub returns-then-before-known : goal.returns-then-before-known
returns-then-before-known c = λ x s.
    let e = c.known-known.ensures x s in
    let l = c.if-before-known.true in
    let m = c.if-instance-known.false in
    record {
      here = λ t. absurd (cc t);
      other = λ t. (λ n. absurd (omega (arith, e, l, m, n)), λ y. subst (λ z. ReplicaStands c.send_retrieve.new.self z) (sym (next_later c.args.k c.args.instance x y (omega (arith, e, l, m)))) (c.in_ok-send_retrieve.ensures x s));
    }

pub returns : goal.returns
returns c = λ x s.
    let e = c.known-known.ensures x s in
    let l = c.if-before-known.false in
    let m = c.if-instance-known.false in
    record { here = λ t. (omega (arith, e, l, m), s); other = λ t. absurd (cc t) }
