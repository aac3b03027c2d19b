use Rattle.std.proofs.Common.{◌≡◌, true, false, arith, subst, suc, ◌-◌, take, get_or}
use Rattle.std.specs.List.{AllByRecursion}
use Rattle.std.proofs.lemmas.Bool.Decides.{nat_tests}
use Rattle.crsm_base.specs.declared.Stamp.{Stamp}
use Rattle.crsm_base.specs.Order.{stamp_lt}
use Rattle.crsm_phase.proofs.Ordered.{all_less, before_place, nothing_before}
use Rattle.crsm_commit.proofs.stamps.place_for.Goals as goal

abbrev no_stamp : Stamp
no_stamp = record { time = 0; origin = 0 }

pub loop-place-preserved : goal.loop-place-preserved
unfolding stamp_lt
loop-place-preserved c =
    let here : stamp_lt c.args.stamp (get_or c.args.stamps.now (c.loop-place.place - 1) no_stamp) ≡ true = grind (arith, nat_tests, c.if-lt.ensures) in (
      omega arith,
      all_less (λ t. stamp_lt c.args.stamp t ≡ true) c.args.stamps.now (c.loop-place.place - 1) c.loop-place.place no_stamp
          (omega arith) (omega arith) c.loop-place.invariant.1 here,
    )

pub returns-else-lt : goal.returns-else-lt
unfolding stamp_lt
returns-else-lt c =
    let here : stamp_lt c.args.stamp (get_or c.args.stamps.now (c.loop-place.place - 1) no_stamp) ≡ false = grind (arith, nat_tests, c.if-lt.ensures) in
    let before = before_place c.args.stamp c.args.stamps.now (c.loop-place.place - 1) no_stamp c.requires (omega arith) here in
    let e : suc (c.loop-place.place - 1) ≡ c.loop-place.place = omega arith in
    record {
      within = omega arith;
      before = subst (λ n. AllByRecursion (λ t. stamp_lt c.args.stamp t ≡ false) (take n c.args.stamps.now)) e before;
      behind = c.loop-place.invariant.1;
    }

pub returns-after-loop-place : goal.returns-after-loop-place
returns-after-loop-place c =
    record {
      within = omega arith;
      before = nothing_before c.args.stamp c.args.stamps.now c.loop-place.place (omega arith);
      behind = c.loop-place.invariant.1;
    }
