-- The contracts of a disk's calls.
use Rattle.std.specs.Prelude.{◌≡◌, ◌≤◌, ℕ, List, Option, Some, None, Result, OnErr, OnOk, IfSome, IsTrue, option_map}
use Rattle.crsm_base.specs.declared.memory.Failed.{Failed}
use Rattle.crsm_base.specs.declared.memory.NoMemory.{NoMemory}
use Rattle.crsm_port_faults.specs.Counts.{Rose}
use Rattle.crsm_port_faults.specs.Plan.{Plan, Spends, MakesRoom}
use Rattle.crsm_disk.specs.Meaning.{Meaning, Elapses, Same}

-- each outcome of a crash now is an earlier one after this step
pub record Goes (step : List ℕ → List ℕ → Type 0) (old new : Meaning) : Type 0 where
  pub follows : (c : List ℕ) → new.may_leave c → (d : List ℕ) × old.may_leave d × step d c
  pub time : Elapses old new

-- Every call keeps honesty, the fill and the borrowed name, and never lowers the fault counter. It fails only if the
-- counter rose; where the disk tells a plan that covers the call, it fails if and only if no further call succeeds.
pub record Answers {T : Type 0} (calls bytes : ℕ) (old new : Meaning) (result : Result T Failed) : Type 0 where
  pub honest : new.honest ≡ old.honest
  pub fill : new.fill ≡ old.fill
  pub borrowed_as : new.borrowed_as ≡ old.borrowed_as
  pub later : old.faults ≤ new.faults
  pub failed : OnErr result (Rose old.faults new.faults)
  pub plan : Spends calls bytes old.plan new.plan result

-- The byte at this offset, if it is one, was renewed. Nothing else changes, but the fault counter where it fails. An
-- honest disk does not fail.
pub record Renews {T : Type 0} (at : Option ℕ) (old new : Meaning) (result : Result T Failed) : Type 0 where
  pub renewed : OnOk result (IfSome at (λ place. new.renewed ≡ Some place))
  pub same : Same old new
  pub fill : new.fill ≡ old.fill
  pub plan : new.plan ≡ old.plan
  pub later : old.faults ≤ new.faults
  pub failed : OnErr result (Rose old.faults new.faults)
  pub never : IsTrue old.honest → OnErr result ⊥

-- memory is reserved, and nothing else changes
pub record Reserves {T : Type 0} (calls bytes : ℕ) (old new : Meaning) (result : Result T NoMemory) : Type 0 where
  pub same : Same old new
  pub faults : new.faults ≡ old.faults
  pub fill : new.fill ≡ old.fill
  pub plan : MakesRoom calls bytes old.plan new.plan result

-- the reserve is unchanged, and if all calls succeeded before, `stop` do now
pub record Stops (stop : Option ℕ) (p q : Plan) : Type 0 where
  pub calls : q.calls ≡ p.calls
  pub bytes : q.bytes ≡ p.bytes
  pub good : p.good ≡ None → q.good ≡ stop

-- the stop and the fill are set, where the disk has them, and nothing else changes
pub record Arms (stop : Option ℕ) (byte : ℕ) (old new : Meaning) : Type 0 where
  pub same : Same old new
  pub faults : new.faults ≡ old.faults
  pub fill : new.fill ≡ option_map (λ _. byte) old.fill
  pub untold : old.plan ≡ None → new.plan ≡ None
  pub stops : (p : Plan) → old.plan ≡ Some p → (q : Plan) × (new.plan ≡ Some q) × Stops stop p q
