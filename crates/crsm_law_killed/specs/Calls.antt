-- The calls of disks, ports and sinks: what each makes of its device, by the contract of the trait.
use Rattle.std.specs.Prelude.{◌≡◌, ℕ, ◌≤◌, List, length, take, Option, Some, Result, IfOk, OnErr, OnOk, IsTrue, is_ok, if◌then◌else◌}
use Rattle.crsm_base.specs.declared.memory.Failed.{Failed}
use Rattle.crsm_base.specs.declared.memory.NoMemory.{NoMemory}
use Rattle.crsm_port_faults.specs.Counts.{Rose}
use Rattle.crsm_port_image.specs.Bytes.{Shortened, Torn, overwritten}
use Rattle.crsm_port_image.specs.Calls.{Call, cut, noted, synced, wrote}
use Rattle.crsm_disk.specs.Contract.{Answers, Arms, Goes, Renews, Reserves}
use Rattle.crsm_disk.specs.Meaning.{Meaning as DiskMeaning, Only, Same}
use Rattle.crsm_io.specs.Streams.{Puts, prefix_of}
use Rattle.crsm_port.specs.Meaning.{Meaning as PortMeaning, Receives, Reserves as PortReserves, Sends}
use Rattle.crsm_port.specs.Passing.{Datagrams, HandsUp, PassesOn, Rests}
use Rattle.crsm_port.specs.declared.port.Recv.{Recv}

-- ---- disks

-- what a change that succeeded makes of a disk
abbrev pub IsDone : Call → DiskMeaning → DiskMeaning → Type 0
IsDone (wrote at bytes) old new = new.seen ≡ overwritten old.seen at bytes
IsDone (cut n) old new = new.seen ≡ take n old.seen
IsDone synced old new = Only old.seen new.may_leave

-- what a crash may leave of bytes that it could leave before the change
abbrev pub MayLeave : Call → List ℕ → List ℕ → Type 0
MayLeave (wrote at bytes) = Torn at (length bytes)
MayLeave (cut n) = Shortened n
MayLeave synced = λ before after. after ≡ before

-- A change of a disk, which notes it where it is done.
pub record Changes (call : Call) (bytes : ℕ) (old new : DiskMeaning) (result : Result (Unit {0}) Failed) : Type 0 where
  pub done : IsTrue old.honest → OnOk result (IsDone call old new)
  pub crash : IsTrue old.honest → Goes (MayLeave call) old new
  pub told : new.history ≡ (if is_ok result then noted call old.history else old.history)
  pub answer : Answers 1 bytes old new result

-- One call of a disk: it asks for the length or for bytes, changes the disk, renews a byte, reserves memory, or says
-- when the disk is to stop.
pub data DiskCall {D : Type 0} (meaning : D → DiskMeaning) (old new : D) : Type 0 where
  asks : (result : Result ℕ Failed) → Same (meaning old) (meaning new) → Answers 0 0 (meaning old) (meaning new) result → DiskCall meaning old new
  changes : (call : Call) (bytes : ℕ) (result : Result (Unit {0}) Failed) → Changes call bytes (meaning old) (meaning new) result → DiskCall meaning old new
  renews : (at : ℕ) (result : Result (Unit {0}) Failed) → Renews (Some at) (meaning old) (meaning new) result → DiskCall meaning old new
  reserves : (calls bytes : ℕ) (result : Result (Unit {0}) NoMemory) → Reserves calls bytes (meaning old) (meaning new) result → DiskCall meaning old new
  arms : (stop : Option ℕ) (fill : ℕ) → Arms stop fill (meaning old) (meaning new) → DiskCall meaning old new

-- ---- ports

-- One call of a port: it receives or sends a datagram, reserves memory, or asks for what changes nothing that is told.
pub data PortCall {P : Type 0} (meaning : P → PortMeaning) (gives may_send : P → Datagrams) (old new : P) : Type 0 where
  receives : (before after : List ℕ) (result : Result Recv Failed) → Receives (meaning old) (meaning new) before after result →
      HandsUp (gives old) (gives new) (may_send old) (may_send new) after result → PortCall meaning gives may_send old new
  sends : (to : ℕ) (bytes : List ℕ) (result : Result (Unit {0}) Failed) → Sends to bytes (meaning old) (meaning new) result →
      PassesOn (gives old) (gives new) (may_send old) (may_send new) to bytes → PortCall meaning gives may_send old new
  makes_room : (sends bytes : ℕ) (result : Result (Unit {0}) NoMemory) → PortReserves sends bytes (meaning old) (meaning new) result →
      Rests (gives old) (gives new) (may_send old) (may_send new) → PortCall meaning gives may_send old new
  rests : meaning new ≡ meaning old → Rests (gives old) (gives new) (may_send old) (may_send new) → PortCall meaning gives may_send old new

-- ---- sinks

-- One call of a sink: it writes a prefix of a piece.
pub record SinkCall {O : Type 0} (written : O → Option (List ℕ)) (faults : O → ℕ) (old new : O) : Type 0 where
  pub piece : List ℕ
  pub result : Result ℕ Failed
  pub bound : IfOk result (λ n. n ≤ length piece)
  pub put : Puts (written old) (written new) (prefix_of result piece)
  pub later : faults old ≤ faults new
  pub rose : OnErr result (Rose (faults old) (faults new))
