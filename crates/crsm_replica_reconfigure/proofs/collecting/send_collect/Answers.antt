use Rattle.std.proofs.Common.{◌<◌, ◌∙◌, sym, subst, take, All}
use Rattle.std.specs.Prelude.{fold}
use Rattle.crsm_replica.specs.Replica.{ReplicaStands}
use Rattle.crsm_replica_reconfigure.specs.Reports.{ask_missing}
use Rattle.crsm_replica_reconfigure.proofs.ReportLemmas.{asks_more, asks_all, asks_coordinator}
use Rattle.crsm_replica_reconfigure.proofs.collecting.send_collect.Goals as goal

pub loop-k-init : goal.loop-k-init
loop-k-init c = λ x ms pages s e. s

pub ask_missing-requires : goal.ask_missing-requires
ask_missing-requires c =
    (subst (λ ks. All (λ k. k < 15) ks) (sym c.deref-k-items.ensures.value) c.in_ok-others.ensures.below) c.loop-k.k-index 0 c.loop-k-test.true

pub loop-k-preserved : goal.loop-k-preserved
loop-k-preserved c = λ x ms pages s e.
    let ks = c.deref-k-items.result.now in
    subst (λ y. ReplicaStands c.ask_missing.new.state y) (asks_more pages x ks c.loop-k.k-index 0 c.loop-k-test.true)
    (c.in_ok-ask_missing.ensures (fold (ask_missing pages) x (take c.loop-k.k-index ks)) ms pages (c.loop-k.invariant x ms pages s e) (asks_coordinator pages x (take c.loop-k.k-index ks) ∙ e))

pub returns : goal.returns
returns c = λ x ms pages s e.
    subst (λ y. ReplicaStands c.loop-k.state y)
    (asks_all pages x c.deref-k-items.result.now c.loop-k.k-index c.loop-k-test.false (c.deref-k-items.ensures.value ∙ c.in_ok-others.ensures.value x s)) (c.loop-k.invariant x ms pages s e)
