use Rattle.std.proofs.Common.{◌∙◌, ℕ, Bool, ap, sym, ◌<◌, []}
use Rattle.std.specs.Global.{Vec}
use Rattle.std.proofs.lemmas.List.Elements.{All-push, All-same, All-nil, All-get_or}
use Rattle.std.specs.Prelude.{filter, not, ◌&&◌, ◌||◌, ◌==◌}
use Rattle.crsm_spec.specs.Lists.{has}
use Rattle.crsm_replica_coordinator.proofs.Passing.{skips, takes, whole}
use Rattle.crsm_replica_reconfigure.proofs.choosing.both_specs.Goals.{then-is_other+in_ok-push, else-is_other}
use Rattle.crsm_replica_reconfigure.proofs.choosing.both_specs.Goals as goal

pub loop-k-init : goal.loop-k-init
loop-k-init c = record { value = c.new-both.ensures.items; below = All-same (λ k. k < 15) c.new-both.result.items [] c.new-both.ensures.items (All-nil (λ k. k < 15)) }

pub loop-k-preserved : goal.loop-k-preserved
loop-k-preserved c =
    let ks = c.all_replicas-k-items.result.now in
    let had = c.loop-k.both.items in
    let old = c.args.old.now in
    let new = c.args.new.now in
    let me = c.args.me in
    elim c.if-is_other.branch [
      | then-is_other+in_ok-push w ↦
          let is = ap (λ (v : Vec ℕ). v.items) w.both-is ∙ w.in_ok-push.ensures.items in record {
            value = takes (λ k. (has old k || has new k) && not (k == me)) ks had c.if-is_other.both.items c.loop-k.k-index c.loop-k-test.true
                (sym c.is_other.ensures ∙ w.if-is_other.true) is c.loop-k.invariant.value;
            below = All-same (λ k. k < 15) _ _ is (All-push (λ k. k < 15) had _ c.loop-k.invariant.below (All-get_or (λ k. k < 15) ks c.loop-k.k-index 0 c.loop-k-test.true c.all_replicas-k-items.ensures.below));
          }
      | else-is_other w ↦
          let is = ap (λ (v : Vec ℕ). v.items) w.both-is in record {
            value = is ∙ skips (λ k. (has old k || has new k) && not (k == me)) ks had c.loop-k.k-index c.loop-k-test.true
                (sym c.is_other.ensures ∙ w.if-is_other.false) c.loop-k.invariant.value;
            below = All-same (λ k. k < 15) _ _ is c.loop-k.invariant.below;
          }
    ]

pub returns : goal.returns
returns c =
    let is : ℕ → Bool = λ k. (has c.args.old.now k || has c.args.new.now k) && not (k == c.args.me) in
    record {
      value = c.loop-k.invariant.value ∙ whole is c.all_replicas-k-items.result.now c.loop-k.k-index c.loop-k-test.false
          ∙ ap (filter is) c.all_replicas-k-items.ensures.value;
      below = c.loop-k.invariant.below;
    }
