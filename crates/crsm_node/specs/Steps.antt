-- The effects of a node in one turn, and when it flushes a group.
use Rattle.std.specs.Prelude.{◌≡◌, ◌⊎◌, ◌↔◌, ℕ, ◌≤◌, List, [], ◌∷◌, ◌++◌, Bool, IsTrue, Option, Result, Ok, Err}
use Rattle.crsm_base.specs.Members.{IsMembers}
use Rattle.crsm_port_faults.specs.Counts.{Rose}
use Rattle.crsm_spec.specs.Draft.{Draft}
use Rattle.crsm_spec.specs.Log.{Log}
use Rattle.crsm_spec.specs.Node.{Turn, turn}
use Rattle.crsm_spec.specs.Replica.{Replica}
use Rattle.crsm_spec_process.specs.Groups.{IsDatagram}
use Rattle.crsm_spec_process.specs.Turns.{CanBeTaken}
use Rattle.crsm_clock.specs.Readings.{Gives, Readings}
use Rattle.crsm_io.specs.Streams.{Puts, PutsPrefix}
use Rattle.crsm_text_sheet.specs.Grammar.{sheet_line_text}
use Rattle.crsm_text_sheet.specs.Sheets.{turn_line}
use Rattle.crsm_disk.specs.Meaning.{Meaning as DiskMeaning, Same}
use Rattle.crsm_port.specs.Meaning.{Meaning as PortMeaning}
use Rattle.crsm_replica_io.specs.Outgoing.{packets_for, raised_by}
use Rattle.crsm_replica_io.specs.declared.input.WantedInput.{WantedInput}
use Rattle.crsm_replica_io.specs.declared.input.WantedInput.TheVariants as what
use Rattle.crsm_replica_detector.specs.Detector.{DetectorStands}
use Rattle.crsm_replica_detector.specs.Watching.{Watch, watched}
use Rattle.crsm_replica_detector.specs.Wished.{Fulfils, empty_receive, wish_of}
use Rattle.crsm_replica_detector.specs.declared.detector.Detector.{Detector}
use Rattle.crsm_shell.specs.declared.shell.Shell.{Shell}
use Rattle.crsm_shell.specs.Flushing.{AddsGroup, IsFullFor, LeavesGroup, SendsNone, SendsPackets}
use Rattle.crsm_shell.specs.Shell.{ShellStands, sends_of}
use Rattle.crsm_shell.specs.Words.{disk_of, peers_of}
use Rattle.crsm_node.specs.Received.{BothTell, Passes, datagram_in}
use Rattle.crsm_node.specs.declared.errors.NodeError.{NodeError}
use Rattle.crsm_node.specs.declared.errors.NodeError.TheVariants.{PortFault, DiskFault, LogFull, WriteFault, Failed, NoMemory}

-- the line of a turn, with its line feed
abbrev pub turn_text : Turn × ℕ → List ℕ
turn_text t = sheet_line_text (turn_line t) ++ 10 ∷ []

-- ---- a turn

-- the turn that was wanted is taken off the port, and nothing is sent
pub record TakesOff (wanted : WantedInput) (t : Turn) (old new : PortMeaning) : Type 0 where
  pub traffic : BothTell (Passes old.framing (datagram_in t) []) old.traffic new.traffic
  pub empties : raised_by (empty_receive wanted t) old.empties ≤ new.empties
  pub losses : new.losses ≡ old.losses
  pub too_long : new.too_long ≡ old.too_long
  pub faults : new.faults ≡ old.faults
  pub framing : new.framing ≡ old.framing
  pub borrowed_as : new.borrowed_as ≡ old.borrowed_as

-- a suspicion that is wanted has members
abbrev pub HasMembers : WantedInput → Type 0
HasMembers wanted = (ms : List ℕ) → wanted ≡ what.Suspect ms → IsMembers ms

-- this turn was wanted, can be taken, and is taken at a reading of the clock
pub record Took (r : Replica) (w : Watch) (t : Turn × ℕ) (ahead later : Option Readings) (old new : PortMeaning) : Type 0 where
  pub fulfils : Fulfils (wish_of w r) t.0
  pub can_be : CanBeTaken t
  pub gives : Gives ahead later t.1
  pub off : TakesOff (wish_of w r) t.0 old new

-- a turn is taken, and its step is pending behind the others
pub record TakesTurn {D : Type 0} {g : _} (shell : Shell D g) (m : DiskMeaning) (detector : Detector) (ahead later : Option Readings) (old new : PortMeaning)
    (lines printed : List ℕ) (is_datagram : Bool) (kept : Log) (r : Replica) (steps : List Draft) (w : Watch) : Type 0 where
  pub t : Turn × ℕ
  pub took : Took r w t ahead later old new
  pub stands : ShellStands shell m kept (turn r t).replica (steps ++ turn r t ∷ [])
  pub watches : DetectorStands detector (turn r t).replica.me (watched w t)
  pub prints : printed ≡ lines ++ turn_text t
  pub kind : IsTrue is_datagram ↔ IsDatagram t

-- nothing is taken off the port and nothing is sent
pub record IsIdle (old new : PortMeaning) : Type 0 where
  pub traffic : new.traffic ≡ old.traffic
  pub empties : new.empties ≡ old.empties
  pub losses : new.losses ≡ old.losses
  pub too_long : new.too_long ≡ old.too_long
  pub later : old.faults ≤ new.faults
  pub framing : new.framing ≡ old.framing
  pub borrowed_as : new.borrowed_as ≡ old.borrowed_as

-- a receive failed, and the rest is as before
pub record FailsToReceive {D : Type 0} {g : _} (shell : Shell D g) (m : DiskMeaning) (detector : Detector) (ahead later : Option Readings) (old new : PortMeaning)
    (lines printed : List ℕ) (kept : Log) (r : Replica) (steps : List Draft) (w : Watch) : Type 0 where
  pub fault : Rose old.faults new.faults
  pub idle : IsIdle old new
  pub unread : later ≡ ahead
  pub stands : ShellStands shell m kept r steps
  pub watches : DetectorStands detector r.me w
  pub unprinted : printed ≡ lines

-- why no step is pending: memory ran out before or after a turn was taken, or a receive failed
abbrev pub FailsToTake : {D : Type 0} {g : _} → Shell D g → DiskMeaning → Detector → (ahead later : Option Readings) → (old new : PortMeaning) → (lines printed : List ℕ) →
    Log → Replica → List Draft → Watch → NodeError → Type 0
FailsToTake shell m detector ahead later old new lines printed kept r steps w PortFault = FailsToReceive shell m detector ahead later old new lines printed kept r steps w
FailsToTake shell m detector ahead later old new lines printed kept r steps w NoMemory = ((later ≡ ahead) × IsIdle old new) ⊎ ((t : Turn × ℕ) × Took r w t ahead later old new)
FailsToTake shell m detector ahead later old new lines printed kept r steps w DiskFault = ⊥
FailsToTake shell m detector ahead later old new lines printed kept r steps w LogFull = ⊥
FailsToTake shell m detector ahead later old new lines printed kept r steps w WriteFault = ⊥
FailsToTake shell m detector ahead later old new lines printed kept r steps w Failed = ⊥

-- ---- a group

-- the pending steps become durable as one body, and then their output is sent
pub record KeepsSteps {D : Type 0} {g : _} (meaning : D → DiskMeaning) (before after : Shell D g) (old new : PortMeaning) (r : Replica) (steps : List Draft) : Type 0 where
  pub stands : ShellStands after (meaning (disk_of after)) r.log r []
  pub sent : SendsPackets (packets_for (peers_of before) (sends_of steps)) old new
  pub added : IsTrue (meaning (disk_of before)).honest → AddsGroup meaning before after steps
  pub left : IsTrue (meaning (disk_of before)).honest → LeavesGroup meaning before after steps
  pub fits : IsTrue (meaning (disk_of before)).honest → IsFullFor meaning before steps → ⊥

-- nothing is sent or written
pub record FailsToKeep (old new : PortMeaning) (had has : Option (List ℕ)) : Type 0 where
  pub unsent : SendsNone old new
  pub unwritten : has ≡ had

-- the disk failed at the pending steps
pub record StopsKeeping {D : Type 0} {g : _} (meaning : D → DiskMeaning) (before after : Shell D g) (steps : List Draft) : Type 0 where
  pub fault : Rose (meaning (disk_of before)).faults (meaning (disk_of after)).faults
  pub left : IsTrue (meaning (disk_of before)).honest → LeavesGroup meaning before after steps
  pub fits : IsTrue (meaning (disk_of before)).honest → IsFullFor meaning before steps → ⊥

-- it is full for them
pub record FindsFull {D : Type 0} {g : _} (meaning : D → DiskMeaning) (before after : Shell D g) (steps : List Draft) : Type 0 where
  pub same : Same (meaning (disk_of before)) (meaning (disk_of after))
  pub full : IsTrue (meaning (disk_of before)).honest → IsFullFor meaning before steps

-- the sheet failed behind a prefix of the lines
pub record FailsToWrite (had has : Option (List ℕ)) (faults more : ℕ) (lines : List ℕ) : Type 0 where
  pub prefix : PutsPrefix had has lines
  pub rose : Rose faults more

-- the effect on the pending steps and on their lines
abbrev pub KeepsGroup : {D : Type 0} {g : _} → (D → DiskMeaning) → (before after : Shell D g) → (old new : PortMeaning) → (had has : Option (List ℕ)) → (faults more : ℕ) → List ℕ →
    Replica → List Draft → Result (Unit {0}) NodeError → Type 0
KeepsGroup meaning before after old new had has faults more lines r steps (Ok _) = KeepsSteps meaning before after old new r steps × Puts had has lines
KeepsGroup meaning before after old new had has faults more lines r steps (Err WriteFault) = KeepsSteps meaning before after old new r steps × FailsToWrite had has faults more lines
KeepsGroup meaning before after old new had has faults more lines r steps (Err DiskFault) = FailsToKeep old new had has × StopsKeeping meaning before after steps
KeepsGroup meaning before after old new had has faults more lines r steps (Err LogFull) = FailsToKeep old new had has × FindsFull meaning before after steps
KeepsGroup meaning before after old new had has faults more lines r steps (Err NoMemory) = FailsToKeep old new had has × Same (meaning (disk_of before)) (meaning (disk_of after))
KeepsGroup meaning before after old new had has faults more lines r steps (Err PortFault) = ⊥
KeepsGroup meaning before after old new had has faults more lines r steps (Err Failed) = ⊥
