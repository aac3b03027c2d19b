use Rattle.std.proofs.Common.{◌∙◌, sym, subst, arith, []}
use Rattle.crsm_spec.specs.Replica.{named_spec}
use Rattle.crsm_suspend.specs.Collecting.{CollectStands}
use Rattle.crsm_replica_reconfigure.proofs.ReconfigureLemmas.{epoch_spent, start_spent, may_not, may_now}
use Rattle.crsm_replica_reconfigure.proofs.reconfiguring.begin.Goals as goal

pub returns-then-epoch-gt-MOST_COLLECTED : goal.returns-then-epoch-gt-MOST_COLLECTED
returns-then-epoch-gt-MOST_COLLECTED c = λ x s. let h = c.if-epoch-gt-MOST_COLLECTED.true in epoch_spent x c.args.members.now c.known-epoch.result (c.known-epoch.ensures x s) (omega (arith, h))

pub returns-then-start-gt-MOST_COLLECTED : goal.returns-then-start-gt-MOST_COLLECTED
returns-then-start-gt-MOST_COLLECTED c = λ x s. let h = c.if-start-gt-MOST_COLLECTED.true in start_spent x c.args.members.now c.start-start.result (c.start-start.ensures x s) (omega (arith, h))

pub returns-then-not-can : goal.returns-then-not-can
returns-then-not-can c = λ x s.
    may_not x c.args.members.now c.in_ok-next.next (c.in_ok-next.ensures x (c.in_ok-spec.ensures x s)) (sym (c.can_be_next-can.ensures x s) ∙ c.if-not-can.true)

pub returns : goal.returns
returns c = λ x s.
    let ms = c.args.members.now in
    let epoch = c.known-epoch.ensures x s in
    let start = c.start-start.ensures x s in
    let spec = c.in_ok-spec.ensures x s in
    let next = c.in_ok-next.ensures x spec in
    let low = c.if-epoch-gt-MOST_COLLECTED.false in
    let early = c.if-start-gt-MOST_COLLECTED.false in
    let collects = c.start-collect.ensures x.replica.log (sym epoch) (sym start) in (
      may_now x ms c.in_ok-next.next c.known-epoch.result c.start-start.result next (sym (c.can_be_next-can.ensures x s) ∙ c.if-not-can.false) epoch start (omega (arith, low)) (omega (arith, early)),
      subst (λ ks. CollectStands x.replica.log ks (named_spec x.replica ms) ms [] c.start-collect.result) spec
          (subst (λ o. CollectStands x.replica.log c.in_ok-spec.spec o ms [] c.start-collect.result) (c.named_spec-named.ensures x ms s next)
          (subst (λ ks. CollectStands x.replica.log c.in_ok-spec.spec c.named_spec-named.result ks [] c.start-collect.result) c.in_ok-members.ensures collects)),
    )
