use Rattle.std.proofs.Common.{◌-◌, ◌≤◌, ℕ, List, take, drop}
use Rattle.std.specs.List.{AllByRecursion}
use Rattle.crsm_ledger.specs.Ledger.{LedgerStands}
use Rattle.crsm_spec.specs.Types.{Rec}
use Rattle.crsm_spec.specs.Log.{executed}
use Rattle.crsm_replica_results.specs.Rising.{RisesStrictly}
use Rattle.crsm_replica_results.proofs.Order.{Below, NotBelow}
use Rattle.crsm_replica_results.proofs.place.seek.Given as goal

abbrev pub invariant-loop-low : goal.invariant-loop-low
invariant-loop-low l =
    (l.low ≤ l.high)
    × (l.high ≤ l.end)
    × ((me n : ℕ) (log : List Rec) → LedgerStands me n l.ledger log → RisesStrictly (executed log) →
    AllByRecursion (Below l.entry) (take l.low (executed log)) × AllByRecursion (NotBelow l.entry) (drop l.high (executed log)))

abbrev pub decreases-loop-low : goal.decreases-loop-low
decreases-loop-low l = l.high - l.low
