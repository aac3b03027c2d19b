use Rattle.std.proofs.Common.{◌≡◌, ◌∙◌, true, false, arith, subst, get_or, ap, sym}
use Rattle.std.specs.List.{AllByRecursion}
use Rattle.crsm_base.specs.declared.Stamp.{Stamp}
use Rattle.crsm_base.specs.Order.{stamp_eq}
use Rattle.std.proofs.lemmas.List.{take_all, get_or_default}
use Rattle.crsm_phase.proofs.Ordered.{all_more, without_none}
use Rattle.crsm_commit.proofs.stamps.place_of.Goals as goal

abbrev no_stamp : Stamp
no_stamp = record { time = 0; origin = 0 }

pub returns-then-eq-clause-some : goal.returns-then-eq-clause-some
unfolding stamp_eq
returns-then-eq-clause-some c =
    let here : stamp_eq (get_or c.args.stamps.now c.loop-place.place no_stamp) c.args.stamp ≡ true = sym c.if-eq.ensures in
    record {
      within = omega arith;
      before = c.loop-place.invariant;
      here = ap (λ s. stamp_eq s c.args.stamp) (get_or_default c.args.stamps.now c.loop-place.place c.args.stamp no_stamp (omega arith)) ∙ here;
    }

pub loop-place-preserved : goal.loop-place-preserved
unfolding stamp_eq
loop-place-preserved c =
    let here : stamp_eq (get_or c.args.stamps.now c.loop-place.place no_stamp) c.args.stamp ≡ false = sym c.if-eq.ensures in
    all_more (λ t. stamp_eq t c.args.stamp ≡ false) c.args.stamps.now c.loop-place.place no_stamp (omega arith) c.loop-place.invariant here

pub returns-clause-none : goal.returns-clause-none
returns-clause-none c =
    let all = take_all c.loop-place.place c.args.stamps.now (omega arith) in
    without_none c.args.stamp c.args.stamps.now
    (subst (λ xs. AllByRecursion (λ t. stamp_eq t c.args.stamp ≡ false) xs) all c.loop-place.invariant)
