use Rattle.std.proofs.Common.{◌∙◌, ap, sym}
use Rattle.std.specs.Prelude.{Option}
use Rattle.crsm_spec.specs.Types.{Stamp}
use Rattle.crsm_ledger.specs.Sorted.{items_above}
use Rattle.crsm_ledger.proofs.LoggedLemmas.{above-kept, from-point}
use Rattle.crsm_ledger.proofs.logged.count_to.Goals as goal

pub returns-in-Some-clause-value : goal.returns-in-Some-clause-value
returns-in-Some-clause-value c = λ done es all.
    rw c.in-Some.is (above-kept done c.in-Some.stamp c.args.items.now es c.count_up_to.result all c.count_up_to.ensures.bound c.count_up_to.ensures.point)

pub returns-in-Some-clause-items : goal.returns-in-Some-clause-items
returns-in-Some-clause-items c =
    from-point c.in-Some.stamp c.args.items.now c.count_up_to.result c.count_up_to.ensures.bound c.count_up_to.ensures.point
    ∙ ap (λ (o : Option Stamp). items_above o c.args.items.now) (sym c.in-Some.is)
