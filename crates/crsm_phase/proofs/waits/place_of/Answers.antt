use Rattle.std.proofs.Common.{◌≡◌, true, false, arith, subst, sym}
use Rattle.std.specs.List.{AllByRecursion}
use Rattle.crsm_base.specs.Order.{stamp_eq}
use Rattle.std.proofs.lemmas.List.{take_all}
use Rattle.crsm_phase.proofs.Ordered.{all_more, without_at, without_none}
use Rattle.crsm_phase.proofs.waits.place_of.Goals as goal

pub returns-then-eq-clause-found : goal.returns-then-eq-clause-found
unfolding stamp_eq
returns-then-eq-clause-found c =
    let here : stamp_eq c.index.result.now c.args.stamp ≡ true = sym c.if-eq.ensures in
    without_at c.args.stamp c.args.owed.now.items c.loop-place.place c.index.result.now c.loop-place.invariant (omega arith)
    (subst (λ x. stamp_eq x c.args.stamp ≡ true) c.index.ensures here)

pub loop-place-preserved : goal.loop-place-preserved
unfolding stamp_eq
loop-place-preserved c =
    let here : stamp_eq c.index.result.now c.args.stamp ≡ false = sym c.if-eq.ensures in
    all_more (λ t. stamp_eq t c.args.stamp ≡ false) c.args.owed.now.items c.loop-place.place c.index.result.now (omega arith) c.loop-place.invariant
    (subst (λ x. stamp_eq x c.args.stamp ≡ false) c.index.ensures here)

pub returns-clause-none : goal.returns-clause-none
returns-clause-none c =
    let all = take_all c.loop-place.place c.args.owed.now.items (omega arith) in
    without_none c.args.stamp c.args.owed.now.items
    (subst (λ xs. AllByRecursion (λ t. stamp_eq t c.args.stamp ≡ false) xs) all c.loop-place.invariant)
