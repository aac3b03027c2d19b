use Rattle.std.proofs.Common.{◌∙◌, ◌<◌, refl, ap, arith, length, get_or}
use Rattle.std.proofs.lemmas.List.{take_all}
use Rattle.std.proofs.lemmas.List.Elements.{All-get_or}
use Rattle.crsm_base.proofs.MembersLemmas.{members_le}
use Rattle.crsm_spec.specs.Ready.{votes_for}
use Rattle.crsm_commit.proofs.Bits.{counted_yes, counted_no}
use Rattle.crsm_commit.proofs.pending.count_in.Goals as goal
use Rattle.crsm_commit.proofs.pending.count_in.Goals.{then-mask-replica-eq1, else-mask-replica-eq1}

pub loop-replica-init : goal.loop-replica-init
unfolding votes_for
loop-replica-init c = (omega arith, λ votes s e. refl)

pub overflow_add-count : goal.overflow_add-count
overflow_add-count c =
    omega (arith, c.loop-replica.invariant.0, ap length c.as_slice-replica-items.ensures.value, members_le _ c.as_slice-replica-items.ensures.members)

pub loop-replica-preserved : goal.loop-replica-preserved
loop-replica-preserved c =
    let below : get_or c.as_slice-replica-items.result.now c.loop-replica.replica-index 0 < 15 = All-get_or (λ k. k < 15) _ _ 0 c.loop-replica-test.true c.as_slice-replica-items.ensures.below in
    elim c.if-mask-replica-eq1.branch [
      | then-mask-replica-eq1 w ↦ (
        omega (arith, c.loop-replica.invariant.0, w.count-is),
        λ votes s e. w.count-is ∙ counted_yes votes s _ _ _ _ c.loop-replica-test.true below e w.if-mask-replica-eq1.true (c.loop-replica.invariant.1 votes s e),
      )
      | else-mask-replica-eq1 w ↦ (
        omega (arith, c.loop-replica.invariant.0, w.count-is),
        λ votes s e. w.count-is ∙ counted_no votes s _ _ _ _ c.loop-replica-test.true below e w.if-mask-replica-eq1.false (c.loop-replica.invariant.1 votes s e),
      )
    ]

pub returns : goal.returns
returns c votes s e =
    c.loop-replica.invariant.1 votes s e
    ∙ ap (λ ks. votes_for ks votes s) (take_all c.loop-replica.replica-index c.as_slice-replica-items.result.now (omega arith) ∙ c.as_slice-replica-items.ensures.value)
