use Rattle.std.proofs.Common.{◌≡◌, ℕ, false, length, subst, sym, arith, ◌∙◌}
use Rattle.std.specs.Prelude.{not}
use Rattle.std.specs.List.{AllWithin}
use Rattle.crsm_base.specs.Order.{stamp_lt}
use Rattle.crsm_ledger.specs.declared.kept.LoggedItem.{LoggedItem}
use Rattle.crsm_ledger.proofs.LoggedLemmas.{within_up_to, within_above}
use Rattle.crsm_ledger.proofs.logged.count_up_to.Goals as goal

pub loop-low-init : goal.loop-low-init
loop-low-init c = (
  omega arith,
  omega arith,
  (λ j d low high. absurd (omega (arith, high))),
  λ j d low high. absurd (omega (arith, low, high)),
)

pub loop-low-preserved-then-is_above_at : goal.loop-low-preserved-then-is_above_at
loop-low-preserved-then-is_above_at c =
    let inv = c.loop-low.invariant in (
      omega arith,
      omega arith,
      inv.2,
      within_above c.args.stamp c.args.items.now c.middle_of-middle.result c.requires.sorted (omega arith) (λ d. sym (c.is_above_at.ensures d) ∙ c.if-is_above_at.true),
    )

pub loop-low-preserved : goal.loop-low-preserved
loop-low-preserved c =
    let inv = c.loop-low.invariant in (
      omega arith,
      omega arith,
      within_up_to c.args.stamp c.args.items.now c.middle_of-middle.result c.requires.sorted (omega arith) (λ d. sym (c.is_above_at.ensures d) ∙ c.if-is_above_at.false),
      inv.3,
    )

pub returns-clause-point : goal.returns-clause-point
returns-clause-point c =
    let inv = c.loop-low.invariant in
    let met : c.loop-low.high ≡ c.loop-low.low = omega (arith, inv.0, c.loop-low-test.false) in
    (inv.2, subst (λ (k : ℕ). AllWithin (λ (e : LoggedItem). not (stamp_lt c.args.stamp e.stamp) ≡ false) c.args.items.now k (length c.args.items.now)) met inv.3)
