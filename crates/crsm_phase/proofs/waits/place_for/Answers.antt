use Rattle.std.proofs.Common.{◌≡◌, true, false, arith, subst, suc, ◌-◌, take}
use Rattle.std.specs.List.{AllByRecursion}
use Rattle.std.proofs.lemmas.Bool.Decides.{nat_tests}
use Rattle.crsm_base.specs.Order.{stamp_lt}
use Rattle.crsm_phase.proofs.Ordered.{all_less, with_at, before_place, nothing_before}
use Rattle.crsm_phase.proofs.waits.place_for.Goals as goal

pub loop-place-preserved : goal.loop-place-preserved
unfolding stamp_lt
loop-place-preserved c =
    let here : stamp_lt c.args.stamp c.index.result.now ≡ true = grind (arith, nat_tests, c.if-lt.ensures) in (
      omega arith,
      all_less (λ t. stamp_lt c.args.stamp t ≡ true) _ _ c.loop-place.place c.index.result.now (omega arith) (omega arith) c.loop-place.invariant.1
          (subst (λ x. stamp_lt c.args.stamp x ≡ true) c.index.ensures here),
    )

pub returns-else-lt-clause-place : goal.returns-else-lt-clause-place
unfolding stamp_lt
returns-else-lt-clause-place c =
    let here : stamp_lt c.args.stamp c.index.result.now ≡ false = grind (arith, nat_tests, c.if-lt.ensures) in
    let before = before_place c.args.stamp c.args.owed.now.items (c.loop-place.place - 1) c.index.result.now c.requires (omega arith)
    (subst (λ x. stamp_lt c.args.stamp x ≡ false) c.index.ensures here) in
    let e : suc (c.loop-place.place - 1) ≡ c.loop-place.place = omega arith in
    with_at c.args.stamp c.args.owed.now.items c.loop-place.place
    (subst (λ n. AllByRecursion (λ t. stamp_lt c.args.stamp t ≡ false) (take n c.args.owed.now.items)) e before) c.loop-place.invariant.1

pub returns-after-loop-place-clause-place : goal.returns-after-loop-place-clause-place
returns-after-loop-place-clause-place c =
    with_at c.args.stamp c.args.owed.now.items c.loop-place.place (nothing_before c.args.stamp c.args.owed.now.items c.loop-place.place (omega arith)) c.loop-place.invariant.1
