use Rattle.std.proofs.Common.{List, drop}
use Rattle.crsm_spec.specs.Types.{Entry}
use Rattle.crsm_spec.specs.Log.{above}
use Rattle.crsm_ledger.specs.Ledger.{HoldsLogged}
use Rattle.crsm_suspend.proofs.FrozenLemmas.{IsPaging}
use Rattle.crsm_suspend.proofs.frozen.page_above.Given as goal

abbrev pub invariant-loop-index : goal.invariant-loop-index
invariant-loop-index l =
    (es : List Entry) → HoldsLogged l.ledger es → IsPaging l.page l.room (drop l.index es) (above l.fn.floor es)
