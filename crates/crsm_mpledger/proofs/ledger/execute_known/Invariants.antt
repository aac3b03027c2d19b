use Rattle.std.proofs.Common.{◌≡◌, ℕ, length}
use Rattle.crsm_mpspec.specs.Log.{Log, by_slot, choices, run_from}
use Rattle.crsm_mpledger.specs.BySlot.{SlotsStand}
use Rattle.crsm_mpledger.specs.Executed.{ExecutionsStand}
use Rattle.crsm_mpledger.specs.Sound.{IsSound}
use Rattle.crsm_mpledger.proofs.ledger.execute_known.Given as goal

abbrev pub invariant-loop-slot : goal.invariant-loop-slot
invariant-loop-slot l = record {
  runs : (log : Log) → IsSound log → SlotsStand l.chosen (by_slot (choices log)) → (done : ℕ) → length (run_from done 0 log) ≡ done
      → ExecutionsStand l.initial.executions (run_from done 0 log)
      → ExecutionsStand l.executions (run_from l.slot 0 log) × (length (run_from l.slot 0 log) ≡ l.slot);
  first : l.executions.first ≡ l.initial.executions.first;
}
