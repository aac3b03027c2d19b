use Rattle.std.proofs.Common.{◌≡◌, ◌++◌, List, drop}
use Rattle.std.specs.List.{AllByRecursion}
use Rattle.crsm_base.specs.Spelling.{FitsEntry}
use Rattle.crsm_spec.specs.Types.{Entry}
use Rattle.crsm_spec.specs.Log.{above}
use Rattle.crsm_ledger.specs.Ledger.{HoldsLogged}
use Rattle.crsm_suspend.proofs.asked.copies_above.Given as goal

abbrev pub invariant-loop-index : goal.invariant-loop-index
invariant-loop-index l =
    ((es : List Entry) → HoldsLogged l.ledger es → l.copies ++ drop l.index es ≡ above l.fn.floor es)
    × AllByRecursion FitsEntry l.copies
