-- The records and datagrams of a turn.
use Rattle.std.specs.Prelude.{◌≡◌, ℕ, List, [], ◌∷◌, ◌++◌, IsTrue, Option, Ok, Err}
use Rattle.crsm_spec.specs.Draft.{Draft}
use Rattle.crsm_spec.specs.Log.{Log}
use Rattle.crsm_spec.specs.Node.{turn}
use Rattle.crsm_spec.specs.Replica.{Replica}
use Rattle.crsm_spec.specs.World.{body_size}
use Rattle.crsm_clock.specs.Readings.{Gives, Readings}
use Rattle.crsm_core.specs.Core.{Answers}
use Rattle.crsm_disk.specs.Meaning.{LeavesOnly, Meaning, Same}
use Rattle.crsm_port.specs.Meaning.{Meaning as PortMeaning}
use Rattle.crsm_replica_io.specs.Input.{TakesInput}
use Rattle.crsm_replica_io.specs.Outgoing.{packets_for}
use Rattle.crsm_replica_io.specs.declared.input.WantedInput.{WantedInput}
use Rattle.crsm_replica_io.specs.declared.input.ReceivedInput.{ReceivedInput}
use Rattle.crsm_replica_io.specs.declared.input.TakeError.TheVariants as take_error
use Rattle.crsm_shell.specs.declared.errors.TurnError.{TurnError}
use Rattle.crsm_shell.specs.declared.errors.TurnError.TheVariants as errors
use Rattle.crsm_shell.specs.declared.shell.Shell.{Shell}
use Rattle.crsm_shell.specs.declared.turned.TurnResult.{TurnResult}
use Rattle.crsm_shell.specs.Flushing.{AddsGroup, CallsForGroup, IsFullFor, IsOfPut, LeavesGroup, LeavesLogs, SendsNone, SendsPackets, SpendsForGroup, StopsGroup}
use Rattle.crsm_shell.specs.Shell.{HasLog, ShellStands, WhereStands, records_of, sends_of}
use Rattle.crsm_shell.specs.Taking.{most_received, step_of, turn_of}
use Rattle.crsm_shell.specs.Words.{buffer_of, disk_of, peers_of}

-- The step of what was taken is answered and kept, and nothing is pending.
pub record KeepsStep {D : Type 0} {g : _} (new : Shell D g) (m : Meaning) (r : Replica) (t : TurnResult) : Type 0 where
  pub answers : Answers t.batch (step_of (buffer_of new) r t)
  pub stands : ShellStands new m (step_of (buffer_of new) r t).replica.log (step_of (buffer_of new) r t).replica []
  pub size : t.size ≡ body_size (step_of (buffer_of new) r t).batch

-- the steps that pended, and the one that was taken
abbrev pub steps_with : {D : Type 0} {g : _} → Shell D g → Replica → List Draft → TurnResult → List Draft
steps_with new r steps t = steps ++ step_of (buffer_of new) r t ∷ []

-- The input is taken from the port into the buffer, and then all output of these steps and its own is sent.
pub record TakesAndSends {D : Type 0} {g : _} (before after : Shell D g) (what : WantedInput) (old new : PortMeaning) (r : Replica) (steps : List Draft) (t : TurnResult) : Type 0 where
  pub between : PortMeaning
  pub taken : TakesInput what most_received (buffer_of after) old between (Ok t.taken)
  pub sent : SendsPackets (packets_for (peers_of before) (sends_of (steps_with after r steps t))) between new

-- The records of these steps and of its own are kept as one body, or the disk is not called where there is none.
pub record KeepsGroup {D : Type 0} {g : _} (meaning : D → Meaning) (before after : Shell D g) (kept : Log) (r : Replica) (steps : List Draft) (t : TurnResult) : Type 0 where
  pub calls : CallsForGroup meaning before after (steps_with after r steps t)
  pub quiet : records_of (steps_with after r steps t) ≡ [] → disk_of after ≡ disk_of before
  pub plan : IsTrue (meaning (disk_of before)).honest → SpendsForGroup meaning before after (steps_with after r steps t)
  pub fits : IsTrue (meaning (disk_of before)).honest → IsFullFor meaning before (steps_with after r steps t) → ⊥
  pub added : IsTrue (meaning (disk_of before)).honest → AddsGroup meaning before after (steps_with after r steps t)
  pub left : IsTrue (meaning (disk_of before)).honest → LeavesGroup meaning before after (steps_with after r steps t)
  pub any_moment : IsTrue (meaning (disk_of before)).honest → LeavesLogs meaning before after kept (step_of (buffer_of after) r t).replica

-- ---- errors

-- A receive failed: the shell is unchanged, its disk was not called, and a crash leaves the durable log.
pub record GoesOn {D : Type 0} {g : _} (meaning : D → Meaning) (before after : Shell D g) (kept : Log) (r : Replica) (steps : List Draft) : Type 0 where
  pub stands : ShellStands after (meaning (disk_of after)) kept r steps
  pub disk : disk_of after ≡ disk_of before
  pub any_moment : IsTrue (meaning (disk_of before)).honest → LeavesOnly (meaning (disk_of before)) (meaning (disk_of after)) (λ file. HasLog r.me r.n file kept)

-- An input is taken off the port into the buffer, and nothing is sent after it.
pub record TakesOnly (what : WantedInput) (buffer : List ℕ) (old new : PortMeaning) : Type 0 where
  pub input : ReceivedInput
  pub between : PortMeaning
  pub taken : TakesInput what most_received buffer old between (Ok input)
  pub unsent : SendsNone between new

-- the effect of a failed turn on the port: it sends nothing
abbrev pub FailsOnPort : WantedInput → List ℕ → PortMeaning → PortMeaning → TurnError → Type 0
FailsOnPort what buffer old new errors.Failed = new ≡ old
FailsOnPort what buffer old new errors.PortFault = TakesInput what most_received buffer old new (Err take_error.PortFault)
FailsOnPort what buffer old new errors.DiskFault = TakesOnly what buffer old new
FailsOnPort what buffer old new errors.LogFull = TakesOnly what buffer old new
FailsOnPort what buffer old new errors.NoMemory = TakesOnly what buffer old new

-- The effect of an error on the disk: all of these steps follow the durable log, or none.
pub record FailsToFlush {D : Type 0} {g : _} (meaning : D → Meaning) (before after : Shell D g) (kept : Log) (r : Replica) (steps : List Draft) (why : TurnError) : Type 0 where
  pub stopped : why ≡ errors.DiskFault → StopsGroup meaning before after kept r steps
  pub unwritten : (why ≡ errors.DiskFault → ⊥) → Same (meaning (disk_of before)) (meaning (disk_of after))
  pub full : IsTrue (meaning (disk_of before)).honest → why ≡ errors.LogFull → IsFullFor meaning before steps
  pub fits : IsTrue (meaning (disk_of before)).honest → why ≡ errors.DiskFault → IsFullFor meaning before steps → ⊥
  pub left : IsTrue (meaning (disk_of before)).honest → LeavesGroup meaning before after steps
  pub any_moment : IsTrue (meaning (disk_of before)).honest → LeavesLogs meaning before after kept r

-- The step of the input taken from the port was made, at the reading of the clock, and could not be flushed with the
-- pending ones.
pub record LosesStep {D : Type 0} {g : _} (meaning : D → Meaning) (before after : Shell D g) (what : WantedInput) (ahead later : Option Readings) (old new : PortMeaning) (why : TurnError) (kept : Log) (r : Replica) (steps : List Draft) : Type 0 where
  pub reading : ℕ
  pub gives : Gives ahead later reading
  pub took : TakesOnly what (buffer_of after) old new
  pub fails : FailsToFlush meaning before after kept (turn r (turn_of (buffer_of after) took.input, reading)).replica (steps ++ turn r (turn_of (buffer_of after) took.input, reading) ∷ []) why

-- the loss by a permanent error
abbrev pub Loses : {D : Type 0} {g : _} → (D → Meaning) → (before after : Shell D g) → WantedInput → (ahead later : Option Readings) → (old new : PortMeaning) → TurnError → Type 0
Loses meaning before after what ahead later old new why = IsOfPut why → WhereStands meaning before (LosesStep meaning before after what ahead later old new why)
