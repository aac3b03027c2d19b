-- Plans: memory reserved for calls in advance, and how many further calls succeed. A device tells both or neither.
use Rattle.std.specs.Prelude.{◌≡◌, ◌↔◌, ℕ, ◌-◌, ◌≤◌, Option, Some, None, IsSome, Result, IsErr, OnOk, OnErr}
use Rattle.crsm_base.specs.declared.memory.Failed.{Failed}
use Rattle.crsm_base.specs.declared.memory.NoMemory.{NoMemory}
use Rattle.crsm_port_faults.specs.Failing.{one_less}

-- the calls and bytes that are reserved and unused, and how many further calls succeed (None: all)
pub record Plan : Type 0 where
  pub calls : ℕ
  pub bytes : ℕ
  pub good : Option ℕ

-- the plan after a call that succeeded and used this much of the reserve
abbrev pub spent : ℕ → ℕ → Plan → Plan
spent calls bytes p = record { calls = p.calls - calls; bytes = p.bytes - bytes; good = one_less p.good }

-- A call that uses this much of the reserve. Where the device tells a plan that covers it, it fails if and only if no
-- further call succeeds.
pub record Spends {T : Type 0} (calls bytes : ℕ) (old new : Option Plan) (result : Result T Failed) : Type 0 where
  pub untold : old ≡ None → new ≡ None
  pub told : (p : Plan) → old ≡ Some p → IsSome new
  pub exact : (p : Plan) → old ≡ Some p → calls ≤ p.calls → bytes ≤ p.bytes → IsErr result ↔ (p.good ≡ Some 0)
  pub spends : (p : Plan) → old ≡ Some p → OnOk result (new ≡ Some (spent calls bytes p))

-- at least this much is reserved, and as many calls succeed as before
pub record HasRoom (of_calls of_bytes : ℕ) (p q : Plan) : Type 0 where
  pub calls : of_calls ≤ q.calls
  pub bytes : of_bytes ≤ q.bytes
  pub good : q.good ≡ p.good

-- memory is reserved; if it ran out, the plan is unchanged
pub record MakesRoom {T : Type 0} (calls bytes : ℕ) (old new : Option Plan) (result : Result T NoMemory) : Type 0 where
  pub untold : old ≡ None → new ≡ None
  pub room : (p : Plan) → old ≡ Some p → OnOk result ((q : Plan) × (new ≡ Some q) × HasRoom calls bytes p q)
  pub err : OnErr result (new ≡ old)
