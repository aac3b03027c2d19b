-- The executed slots in memory.
use Rattle.std.specs.Prelude.{◌≡◌, ◌≤◌, ℕ, List, [], ◌∷◌, ◌++◌, None, Some, drop, length}
use Rattle.crsm_mpspec.specs.Log.{Log, by_slot, choices, executed, run_from}
use Rattle.crsm_mpspec.specs.Types.{Value}
use Rattle.crsm_mpspec.specs.Values.{answer_after, rows_after}
use Rattle.crsm_mpledger.specs.declared.by_slot.BySlot.{BySlot}
use Rattle.crsm_mpledger.specs.BySlot.{SlotsStand}
use Rattle.crsm_mpledger.specs.Sound.{IsSound}
use Rattle.crsm_mpledger.specs.declared.executions.Execution.{Execution}
use Rattle.crsm_mpledger.specs.declared.executions.Executions.{Executions}

-- the execution of a value after these; a noop has no answer
unfoldable pub execution_after : List Value → Value → Execution
execution_after done None = Execution.Noop
execution_after done (Some c) = Execution.Applied c.client c.number (answer_after done c)

-- the executions of values after these
unfoldable pub executions_behind : List Value → List Value → List Execution
executions_behind done [] = []
executions_behind done (v ∷ vs) = execution_after done v ∷ executions_behind (done ++ v ∷ []) vs

-- the executions of values
unfoldable pub executions_of : List Value → List Execution
executions_of values = executions_behind [] values

-- these values were executed, and the executions of the first slots are forgotten
pub record ExecutionsStand (executions : Executions) (values : List Value) : Type 0 where
  pub store : executions.store ≡ rows_after values
  pub count : executions.count ≡ length values
  pub kept : executions.first ≤ length values
  pub slots : executions.slots.items ≡ drop executions.first (executions_of values)

-- for the values that were executed
abbrev pub WhereExecuted : Executions → (List Value → Type 0) → Type 0
WhereExecuted executions P = (values : List Value) → ExecutionsStand executions values → P values

-- where the slots of a log before one of them were executed, now all are that the log allows
abbrev pub ExecutesKnown : BySlot Value → (old new : Executions) → Type 0
ExecutesKnown chosen old new =
    (log : Log) → IsSound log → SlotsStand chosen (by_slot (choices log)) → (done : ℕ) → length (run_from done 0 log) ≡ done →
    ExecutionsStand old (run_from done 0 log) → ExecutionsStand new (executed log)
