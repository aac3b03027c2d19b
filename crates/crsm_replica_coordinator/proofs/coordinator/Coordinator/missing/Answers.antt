use Rattle.std.proofs.Common.{◌∙◌, ℕ, ap, sym, ◌<◌, []}
use Rattle.std.specs.Global.{Vec}
use Rattle.std.proofs.lemmas.List.Elements.{All-push, All-same, All-nil, All-get_or}
use Rattle.std.specs.Prelude.{not}
use Rattle.crsm_spec.specs.Lists.{has}
use Rattle.crsm_replica_coordinator.specs.Coordinator.{counted_of}
use Rattle.crsm_replica_coordinator.proofs.Passing.{skips, takes, whole}
use Rattle.crsm_replica_coordinator.proofs.coordinator.Coordinator.missing.Goals.{then-not-counts+in_ok-push, else-not-counts}
use Rattle.crsm_replica_coordinator.proofs.coordinator.Coordinator.missing.Goals as goal

pub loop-k-init : goal.loop-k-init
loop-k-init c = record { value = λ me n known m s. c.new-missing.ensures.items; below = All-same (λ k. k < 15) c.new-missing.result.items [] c.new-missing.ensures.items (All-nil (λ k. k < 15)) }

pub loop-k-preserved : goal.loop-k-preserved
loop-k-preserved c =
    let ks = c.args.replicas.now in
    let had = c.loop-k.missing.items in
    elim c.if-not-counts.branch [
      | then-not-counts+in_ok-push w ↦
          let is = ap (λ (v : Vec ℕ). v.items) w.missing-is ∙ w.in_ok-push.ensures.items in record {
            value = λ me n known m s. takes (λ k. not (has (counted_of m) k)) ks had c.if-not-counts.missing.items c.loop-k.k-index c.loop-k-test.true
                (ap not (sym (c.counts.ensures me n known m s) ∙ w.if-not-counts.true)) is (c.loop-k.invariant.value me n known m s);
            below = All-same (λ k. k < 15) _ _ is (All-push (λ k. k < 15) had _ c.loop-k.invariant.below (All-get_or (λ k. k < 15) ks c.loop-k.k-index 0 c.loop-k-test.true c.requires));
          }
      | else-not-counts w ↦
          let is = ap (λ (v : Vec ℕ). v.items) w.missing-is in record {
            value = λ me n known m s. is ∙ skips (λ k. not (has (counted_of m) k)) ks had c.loop-k.k-index c.loop-k-test.true
                (ap not (sym (c.counts.ensures me n known m s) ∙ w.if-not-counts.false)) (c.loop-k.invariant.value me n known m s);
            below = All-same (λ k. k < 15) _ _ is c.loop-k.invariant.below;
          }
    ]

pub returns : goal.returns
returns c = record {
  value = λ me n known m s. c.loop-k.invariant.value me n known m s ∙ whole (λ k. not (has (counted_of m) k)) c.args.replicas.now c.loop-k.k-index c.loop-k-test.false;
  below = c.loop-k.invariant.below;
}
