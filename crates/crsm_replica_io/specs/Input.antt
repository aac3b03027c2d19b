-- The input that a step takes off a port.
use Rattle.std.specs.Prelude.{◌≡◌, ◌↔◌, ◌≤◌, ℕ, List, [], ◌∷◌, ◌++◌, take, Some, None, IsSome, Result, Ok, Err, IfOk, IsErrOf}
use Rattle.crsm_base.specs.declared.memory.Failed.{Failed}
use Rattle.crsm_port_faults.specs.Counts.{Rose}
use Rattle.crsm_port_faults.specs.Plan.{Plan, Spends}
use Rattle.crsm_port.specs.Meaning.{Framing, Meaning, Packet, Traffic}
use Rattle.crsm_replica_io.specs.declared.input.WantedInput.{WantedInput}
use Rattle.crsm_replica_io.specs.declared.input.WantedInput.TheVariants as what
use Rattle.crsm_replica_io.specs.declared.input.ReceivedInput.{ReceivedInput}
use Rattle.crsm_replica_io.specs.declared.input.ReceivedInput.TheVariants as taken
use Rattle.crsm_replica_io.specs.declared.input.TakeError.{TakeError}
use Rattle.crsm_replica_io.specs.declared.input.TakeError.TheVariants.{PortFault}

-- a tick where the count of empty receives rose, a datagram where it stands
abbrev pub CountsTick : ℕ → ℕ → ReceivedInput → Type 0
CountsTick old new taken.Tick = Rose old new × (old ≤ new)
CountsTick old new (taken.Datagram from len) = new ≡ old
CountsTick old new (taken.Suspect members) = ⊥

-- a datagram is no longer than the buffer
abbrev pub IsWithin : ℕ → ReceivedInput → Type 0
IsWithin size taken.Tick = Unit {0}
IsWithin size (taken.Datagram from len) = len ≤ size
IsWithin size (taken.Suspect members) = Unit {0}

-- the first datagram that waits, cut to a length, is the prefix of the buffer; a tick where none waits
abbrev pub IsFirst : ℕ → List ℕ → Framing → Traffic → Traffic → ReceivedInput → Type 0
IsFirst size buffer framing old new taken.Tick = (old.waiting ≡ []) × (new ≡ old)
IsFirst size buffer framing old new (taken.Datagram from len) = (d : Packet) × (rest : List Packet) × (old.waiting ≡ d ∷ rest) × (from ≡ (framing.unwrap d).address)
    × (take len buffer ≡ take size (framing.unwrap d).bytes) × (new ≡ record old { waiting = rest; taken = old.taken ++ d ∷ [] })
IsFirst size buffer framing old new (taken.Suspect members) = ⊥

-- the same answer, as the port has it
abbrev pub of_port : Result ReceivedInput TakeError → Result ReceivedInput Failed
of_port (Ok t) = Ok t
of_port (Err PortFault) = Err (record {})

-- the effect of a receive into a buffer of this length, with the buffer after it
pub record Receives (size : ℕ) (buffer : List ℕ) (old new : Meaning) (result : Result ReceivedInput TakeError) : Type 0 where
  pub losses : new.losses ≡ old.losses
  pub later : old.faults ≤ new.faults
  pub counted : IfOk result (CountsTick old.empties new.empties)
  pub not_empty : IsErrOf result PortFault → new.empties ≡ old.empties
  pub fault : IsErrOf result PortFault → Rose old.faults new.faults
  pub no_fault : (IsErrOf result PortFault → ⊥) → new.faults ≡ old.faults
  pub first : (t u : Traffic) → old.traffic ≡ Some t → new.traffic ≡ Some u → IfOk result (IsFirst size buffer old.framing t u)
  pub none_taken : IsErrOf result PortFault → new.traffic ≡ old.traffic
  pub too_long : new.too_long ≡ old.too_long
  pub told : IsSome old.traffic ↔ IsSome new.traffic
  pub framing : new.framing ≡ old.framing
  pub borrowed_as : new.borrowed_as ≡ old.borrowed_as
  pub plan : Spends 0 0 old.plan new.plan (of_port result)
  -- a port all of whose calls go well does not fail
  pub well : (p : Plan) → old.plan ≡ Some p → p.good ≡ None → IsErrOf result PortFault → ⊥

-- the effect of taking the wanted input, with the buffer after it: only a receive calls the port
abbrev pub TakesInput : WantedInput → ℕ → List ℕ → Meaning → Meaning → Result ReceivedInput TakeError → Type 0
TakesInput what.Receive size buffer old new result = Receives size buffer old new result
TakesInput what.Tick size buffer old new result = (new ≡ old) × (result ≡ Ok taken.Tick)
TakesInput (what.Suspect members) size buffer old new result = (new ≡ old) × (result ≡ Ok (taken.Suspect members))
