-- Receives that answer nothing first, so that a tick goes before what is ready.
use Rattle.std.specs.Prelude.{◌≡◌, ℕ, true, false, Result, Ok, Err}
use Rattle.crsm_base.specs.declared.memory.Failed.{Failed}
use Rattle.crsm_port.specs.Meaning.{Meaning, SendsAll}
use Rattle.crsm_port.specs.declared.port.Recv.{Recv}
use Rattle.crsm_port.specs.declared.port.Recv.TheVariants.{Nothing, Datagram}
use Rattle.crsm_port_flow.specs.Reads.{StaysAbove, state_of}
use Rattle.crsm_port_flow.specs.Traffic.{acks_of}
use Rattle.crsm_port_flow.specs.Went.{IsRecent}
use Rattle.crsm_port_flow.specs.declared.flow.FlowPort.{FlowPort}
use Rattle.crsm_port_flow.specs.declared.ticks.Ticks.{Ticks}

-- a tick is due at this reading: no receive came after the last flush, and 10 milliseconds have passed since one answered nothing
abbrev pub IsTickDue : ℕ → Ticks → Type 0
IsTickDue now t = (t.has_flushed ≡ true) × (IsRecent t.at now 10_000 → ⊥)

-- a receive is answered, and the one after it gives no tick first
abbrev pub answered : Ticks → Ticks
answered t = record t { has_flushed = false }

-- a receive answers nothing at this reading
abbrev pub at_tick : ℕ → Ticks
at_tick now = record { has_flushed = false; at = now }

-- what is noted of a receive's answer: when it was nothing
abbrev pub NotesAnswer : Result Recv Failed → ℕ → Ticks → Ticks → Type 0
NotesAnswer (Ok Nothing) now old new = new ≡ at_tick now
NotesAnswer (Ok (Datagram from len)) now old new = new ≡ answered old
NotesAnswer (Err e) now old new = new ≡ answered old

-- a tick is due, so a receive answers nothing: it sends the acknowledgements that were held, and all that waits to go up waits on
pub record TicksFirst {P C : Type 0} (meaning : P → Meaning) (old new : FlowPort P C) (result : Result Recv Failed) : Type 0 where
  pub nothing : result ≡ Ok Nothing
  pub due : IsTickDue new.now old.ticks
  pub sends : SendsAll (acks_of old) (meaning old.port) (meaning new.port)
  pub waits : StaysAbove (state_of (meaning old.port) old) (state_of (meaning new.port) new)
