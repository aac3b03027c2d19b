use Rattle.std.proofs.Common.{◌≡◌, ℕ, List, take}
use Rattle.crsm_base.specs.Store.{after}
use Rattle.crsm_ledger.specs.Ledger.{LedgerStands}
use Rattle.crsm_spec.specs.Types.{Rec}
use Rattle.crsm_spec.specs.Log.{executed}
use Rattle.crsm_replica_results.proofs.replay.replay.Given as goal

abbrev pub invariant-loop-before : goal.invariant-loop-before
invariant-loop-before l = (me n : ℕ) (log : List Rec) → LedgerStands me n l.ledger log → l.store ≡ after (take l.before (executed log))
