use Rattle.std.proofs.Common.{◌≡◌, take}
use Rattle.std.specs.Prelude.{fold, flat_map}
use Rattle.crsm_spec.specs.Log.{above}
use Rattle.crsm_spec.specs.Collect.{with_new}
use Rattle.crsm_suspend.proofs.union.Union.add_pages.Given as goal

abbrev pub invariant-loop-page : goal.invariant-loop-page
invariant-loop-page l = l.self ≡ fold with_new l.initial.self (above l.floor (flat_map (λ es. es) (take l.page-index l.pages)))
