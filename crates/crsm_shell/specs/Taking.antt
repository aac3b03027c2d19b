-- The input that a shell takes, and its step.
use Rattle.std.specs.Prelude.{◌≡◌, ◌<◌, ◌^◌, ℕ, List, [], ◌∷◌, ◌++◌, take, Option, Some, None, option_and_then, Result, Ok, Err}
use Rattle.std.specs.List.{AllByRecursion}
use Rattle.crsm_base.specs.MessageReading.{datagram_of}
use Rattle.crsm_base.specs.declared.datagram.Datagram.{Datagram}
use Rattle.crsm_base.specs.declared.datagram.Datagram.TheVariants as datagram
use Rattle.crsm_spec.specs.Log.{Log}
use Rattle.crsm_spec.specs.Replica.{Replica}
use Rattle.crsm_spec.specs.Draft.{Draft}
use Rattle.crsm_spec.specs.Node.{Turn, turn}
use Rattle.crsm_spec.specs.World.{body_size}
use Rattle.crsm_clock.specs.Readings.{Readings, Gives}
use Rattle.crsm_core.specs.Core.{Answers}
use Rattle.crsm_replica_output.specs.declared.batch.Batch.{Batch}
use Rattle.crsm_disk.specs.Meaning.{Meaning}
use Rattle.crsm_port.specs.Meaning.{Meaning as PortMeaning}
use Rattle.crsm_replica_io.specs.Input.{TakesInput}
use Rattle.crsm_replica_io.specs.declared.input.WantedInput.{WantedInput}
use Rattle.crsm_replica_io.specs.declared.input.ReceivedInput.{ReceivedInput}
use Rattle.crsm_replica_io.specs.declared.input.ReceivedInput.TheVariants as taken
use Rattle.crsm_replica_io.specs.declared.input.TakeError.TheVariants as take_error
use Rattle.crsm_ledger.specs.Recovered.{with_records}
use Rattle.crsm_shell.specs.declared.errors.TurnError.{TurnError}
use Rattle.crsm_shell.specs.declared.errors.TurnError.TheVariants as errors
use Rattle.crsm_shell.specs.declared.shell.Shell.{Shell}
use Rattle.crsm_shell.specs.declared.turned.TurnResult.{TurnResult}
use Rattle.crsm_shell.specs.Shell.{ShellStands}
use Rattle.crsm_shell.specs.Words.{buffer_of}

-- the turn that was taken; a datagram is the prefix of the buffer
unfoldable pub turn_of : List ℕ → ReceivedInput → Turn
turn_of buffer (taken.Datagram from len) = Turn.In from (take len buffer)
turn_of buffer taken.Tick = Turn.Tick
turn_of buffer (taken.Suspect members) = Turn.Suspect members

-- the step of what was taken into this buffer, at its reading
abbrev pub step_of : List ℕ → Replica → TurnResult → Draft
step_of buffer r t = turn r (turn_of buffer t.taken, t.reading)

-- the same by its parts
abbrev pub step_at : List ℕ → ReceivedInput → ℕ → Replica → Draft
step_at buffer what reading r = turn r (turn_of buffer what, reading)

-- The step is made, with its batch and the bytes of its records, and is pending behind those before it.
pub record MakesStep {D : Type 0} {g : _} (new : Shell D g) (m : Meaning) (kept : Log) (r : Replica) (steps : List Draft) (x : Draft) (batch : Batch) (bytes : ℕ) : Type 0 where
  pub answers : Answers batch x
  pub stands : ShellStands new m kept x.replica (steps ++ x ∷ [])
  pub size : bytes ≡ body_size x.batch
  pub me : x.replica.me ≡ r.me
  pub n : x.replica.n ≡ r.n
  pub log : x.replica.log ≡ with_records r.log x.batch

-- the same of what was taken
abbrev pub TakesStep : {D : Type 0} {g : _} → Shell D g → Meaning → (kept : Log) → Replica → (steps : List Draft) → TurnResult → Type 0
TakesStep new m kept r steps t = MakesStep new m kept r steps (step_of (buffer_of new) r t) t.batch t.size

-- how long a datagram may be that is received whole
abbrev pub most_received : ℕ
most_received = 8192

-- ---- who is received

-- the replica that a datagram comes from: the sender of a frame, of an acknowledgement or of a part
unfoldable pub sender_of : Datagram → Option ℕ
sender_of (datagram.Frame from to epoch seq payload) = Some from
sender_of (datagram.Ack from to epoch next) = Some from
sender_of (datagram.Part from to boot number index count bytes) = Some from
sender_of (datagram.Request command) = None
sender_of (datagram.Reply client number outcome) = None
sender_of (datagram.Operate members) = None

-- the replica that a turn receives from
unfoldable pub heard_in : Turn → Option ℕ
heard_in (Turn.In address bytes) = option_and_then sender_of (datagram_of bytes)
heard_in Turn.Tick = None
heard_in (Turn.Suspect members) = None

-- ---- the port and the clock

-- An input is taken off the port into the buffer as it is wanted; only a receive calls the port, and nothing else stops
-- it than a fault of the port.
abbrev pub Receives : WantedInput → List ℕ → PortMeaning → PortMeaning → Result ReceivedInput TurnError → Type 0
Receives what buffer old new (Ok t) = TakesInput what most_received buffer old new (Ok t)
Receives what buffer old new (Err errors.PortFault) = TakesInput what most_received buffer old new (Err take_error.PortFault)
Receives what buffer old new (Err errors.NoMemory) = ⊥
Receives what buffer old new (Err errors.Failed) = ⊥
Receives what buffer old new (Err errors.DiskFault) = ⊥
Receives what buffer old new (Err errors.LogFull) = ⊥

-- The same for a whole step; if the replica failed before, nothing is taken. If memory runs out, the input is taken.
abbrev pub Takes : WantedInput → List ℕ → PortMeaning → PortMeaning → Result TurnResult TurnError → Type 0
Takes what buffer old new (Ok t) = Receives what buffer old new (Ok t.taken)
Takes what buffer old new (Err errors.Failed) = new ≡ old
Takes what buffer old new (Err errors.NoMemory) = (t : ReceivedInput) × Receives what buffer old new (Ok t)
Takes what buffer old new (Err why) = Receives what buffer old new (Err why)

-- The clock is read once, after the input is taken; where none is taken, it is not read.
abbrev pub Reads : Option Readings → Option Readings → Result TurnResult TurnError → Type 0
Reads old new (Ok t) = Gives old new t.reading
Reads old new (Err errors.Failed) = new ≡ old
Reads old new (Err errors.PortFault) = new ≡ old
Reads old new (Err _) = (reading : ℕ) × Gives old new reading

-- bytes are below 256
abbrev pub AreBytes : List ℕ → Type 0
AreBytes bytes = AllByRecursion (λ b. b < 256) bytes

-- What was taken is bytes, in this buffer, and a reading of 64 bits, also where memory ran out behind them.
abbrev pub IsTyped : List ℕ → Option Readings → Option Readings → Result TurnResult TurnError → Type 0
IsTyped buffer old new (Ok t) = (t.reading < 2 ^ 64) × AreBytes buffer
IsTyped buffer old new (Err errors.NoMemory) = (reading : ℕ) × Gives old new reading × (reading < 2 ^ 64) × AreBytes buffer
IsTyped buffer old new (Err _) = Unit {0}
