use Rattle.std.proofs.Common.{◌≡◌, take}
use Rattle.std.specs.Prelude.{fold}
use Rattle.crsm_spec.specs.Log.{above}
use Rattle.crsm_spec.specs.Collect.{with_new}
use Rattle.crsm_suspend.proofs.union.Union.add_above.Given as goal

abbrev pub invariant-loop-entry : goal.invariant-loop-entry
invariant-loop-entry l = l.self ≡ fold with_new l.initial.self (above l.floor (take l.entry-index l.entries))
