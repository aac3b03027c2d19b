-- Results that are exact, unless memory ran out.
use Rattle.std.specs.Prelude.{◌≡◌, ◌⊎◌, ℕ, ◌+◌, List, Option}
use Rattle.crsm_audit.specs.Handled.{audited}
use Rattle.crsm_base.specs.declared.Command.{Command}
use Rattle.crsm_client.specs.Asking.{WhereNotReplied, WhereReplied}
use Rattle.crsm_delay.specs.Reading.{plans_of}
use Rattle.crsm_delay.specs.declared.handling.Wanted.{Wanted}
use Rattle.crsm_port_faults.specs.Counts.{Rose}
use Rattle.crsm_io.specs.Streams.{Puts}
use Rattle.crsm_port_lines.specs.Exact as lines
use Rattle.crsm_cmd_dump.specs.Run as dumped
use Rattle.crsm_cmd_lock.specs.Answers.{WhereAnswered, WhereNotAnswered}
use Rattle.crsm_port.specs.Meaning.{Meaning}
use Rattle.crsm_cmd_replay.specs.Run as schedule
use Rattle.crsm_sim_schedule.specs.State.{count_of}
use Rattle.crsm_sim_schedule.specs.declared.Cause.{Cause}
use Rattle.crsm_mpreplay.specs.Run as led
use Rattle.crsm_cmd_replay_node.specs.Run as sheet
use Rattle.crsm_cmd_replay_node.specs.declared.cause.SheetCause.{SheetCause}
use Rattle.crsm_text_words.specs.declared.order.DumpPart.{DumpPart}
use Rattle.crsm_text_words.specs.declared.order.LockTask.{LockTask}
use Rattle.crsm_text_words.specs.declared.order.Task.{Task}
use Rattle.crsm_text_words.specs.declared.order.Task.TheVariants.{Show, Replay, ReplayNode, Client, Operate, Soak, Node, Audit, Lock, Delay, DelayTimes, ReplayMp, Dump}
use Rattle.crsm_app.specs.Devices.{Devices}
use Rattle.crsm_app.specs.Locks.{lock_order}
use Rattle.crsm_app.specs.Parts.{part_of}
use Rattle.crsm_app.specs.declared.status.Status.{Status}

abbrev pub IsDone : Status → Type 0
IsDone result = (result ≡ Status.Ok) ⊎ (result ≡ Status.NoMemory)

-- refused for this line and cause
abbrev pub IsRefused : ℕ → Cause → Status → Type 0
IsRefused line cause result = (result ≡ Status.BadInput line cause) ⊎ (result ≡ Status.NoMemory)

-- the same of a schedule of a store with a leader
abbrev pub IsRefusedMp : ℕ → Cause → Status → Type 0
IsRefusedMp line cause result = (result ≡ Status.BadMpInput line cause) ⊎ (result ≡ Status.NoMemory)

-- refused for this line of a sheet as no line, or at `open` for a body that is no log
abbrev pub IsRefusedSheet : ℕ → SheetCause → Status → Type 0
IsRefusedSheet line SheetCause.Unreadable result = IsRefused line Cause.Unreadable result
IsRefusedSheet line (SheetCause.BadLog entry why) result = (result ≡ Status.BadLog entry why) ⊎ (result ≡ Status.NoMemory)

abbrev pub IsTooLong : Status → Type 0
IsTooLong result = (result ≡ Status.InputTooLong) ⊎ (result ≡ Status.NoMemory)

abbrev pub IsUnanswered : Status → Type 0
IsUnanswered result = (result ≡ Status.NoAnswer) ⊎ (result ≡ Status.NoMemory)

-- all turns were taken, or the log that was found is not this replica's, or is full
abbrev pub IsNodeDone : Status → Type 0
IsNodeDone Status.Ok = Unit {0}
IsNodeDone (Status.BadLog entry why) = Unit {0}
IsNodeDone Status.LogFull = Unit {0}
IsNodeDone (Status.OtherCluster found) = Unit {0}
IsNodeDone Status.NoMemory = Unit {0}
IsNodeDone _ = ⊥

-- where no fault of a node's devices was counted
abbrev pub WhereNodeFaultless : (port more_port disk more_disk sheet more_sheet : ℕ) → Type 0 → Type 0
WhereNodeFaultless port more_port disk more_disk sheet more_sheet P = ¬ (Rose port more_port) → ¬ (Rose disk more_disk) → ¬ (Rose sheet more_sheet) → P

-- for the rest of the input: a schedule within the limit is done, a bad line is refused, more than the limit is too
-- long
pub record ReplaysExactly (left : Option (List ℕ)) (result : Status) : Type 0 where
  pub complete : schedule.WhereSchedule left (λ s. IsDone result)
  pub refused : schedule.WhereBad left (λ read cause. IsRefused (count_of read + 1) cause result)
  pub too_long : schedule.WhereTooLong left (IsTooLong result)

-- the same of a schedule of a store with a leader
pub record ReplaysMpExactly (left : Option (List ℕ)) (result : Status) : Type 0 where
  pub complete : led.WhereSchedule left (λ s. IsDone result)
  pub refused : led.WhereBad left (λ read cause. IsRefusedMp (count_of read + 1) cause result)
  pub too_long : led.WhereTooLong left (IsTooLong result)

-- the same of a sheet
pub record SheetsExactly (me n : ℕ) (left : Option (List ℕ)) (result : Status) : Type 0 where
  pub complete : sheet.WhereSheet me n left (IsDone result)
  pub refused : sheet.WhereBad me n left (λ line cause. IsRefusedSheet line cause result)
  pub too_long : sheet.WhereTooLong me n left (IsTooLong result)

-- The same for sheets that are audited, a bad log among them at the end. Their lines alone determine what is read and
-- what is refused.
pub record AuditsExactly (n : ℕ) (left : Option (List ℕ)) (result : Status) : Type 0 where
  pub decided : lines.Exact (audited n)
  pub unreadable : decided.unreadable ≡ SheetCause.Unreadable
  pub complete : lines.WhereWhole (audited n) decided left (IsDone result)
  pub refused : lines.WhereBad (audited n) decided left (λ line cause. IsRefusedSheet line cause result)
  pub too_long : lines.WhereTooLong (audited n) decided left (IsTooLong result)

-- The same for a plan. Its lines alone determine what is read and what is refused.
pub record PlansExactly (wanted : Wanted) (left : Option (List ℕ)) (result : Status) : Type 0 where
  pub decided : lines.Exact (plans_of wanted)
  pub complete : lines.WhereWhole (plans_of wanted) decided left (IsDone result)
  pub refused : lines.WhereBad (plans_of wanted) decided left (λ line why. IsRefused line Cause.Unreadable result)
  pub too_long : lines.WhereTooLong (plans_of wanted) decided left (IsTooLong result)

-- A log is dumped, a file on which a boot is refused is refused for the same body, and a longer input too.
pub record DumpsExactly (me n : ℕ) (part : DumpPart) (left had has : Option (List ℕ)) (result : Status) : Type 0 where
  pub complete : dumped.WhereLog me n (part_of part) left (λ text. ((result ≡ Status.Ok) × Puts had has text) ⊎ (result ≡ Status.NoMemory))
  pub refused : dumped.WhereRefused me n left (λ entry why. (result ≡ Status.BadLog entry why) ⊎ (result ≡ Status.NoMemory))
  pub too_long : dumped.WhereTooLong left ((result ≡ Status.LogTooLong) ⊎ (result ≡ Status.NoMemory))

-- of what was taken: it is done where the reply is among it, and not answered where it is not
pub record AsksExactly (cluster to : ℕ) (command : Command) (result : Status) (old new : Meaning) (out_old out_new : ℕ) : Type 0 where
  pub complete : WhereReplied cluster to command old new (¬ (Rose out_old out_new) → IsDone result)
  pub no_answer : WhereNotReplied cluster to command old new (IsUnanswered result)

-- of what was taken: it is done where all answers are among it, and not answered where they are not
pub record LocksExactly (t : LockTask) (result : Status) (old new : Meaning) (out_old out_new : ℕ) : Type 0 where
  pub complete : WhereAnswered (lock_order t) old new (¬ (Rose out_old out_new) → IsDone result)
  pub no_answer : WhereNotAnswered (lock_order t) old new (IsUnanswered result)

-- where no fault of the input or of the output was counted
abbrev pub WhereFaultless : (old new : Devices) → Type 0 → Type 0
WhereFaultless old new P = ¬ (Rose old.read_faults new.read_faults) → ¬ (Rose old.write_faults new.write_faults) → P

-- how a task is answered
abbrev pub Exactly : (cluster : ℕ) → Task → Status → (old new : Devices) → Type 0
Exactly cluster (Show text) result old new = ¬ (Rose old.write_faults new.write_faults) → IsDone result
Exactly cluster Replay result old new = WhereFaultless old new (ReplaysExactly old.left result)
Exactly cluster (ReplayNode me n) result old new = WhereFaultless old new (SheetsExactly me n old.left result)
Exactly cluster (Client to turns command) result old new = AsksExactly cluster to command result old.port new.port old.write_faults new.write_faults
Exactly cluster (Operate to members) result old new = ¬ (Rose old.port.losses new.port.losses) → IsDone result
Exactly cluster (Soak number n steps) result old new = ¬ (Rose old.write_faults new.write_faults) → IsDone result
Exactly cluster (Node t) result old new =
    WhereNodeFaultless old.port.faults new.port.faults old.disk.faults new.disk.faults old.write_faults new.write_faults (IsNodeDone result)
Exactly cluster (Audit n) result old new = WhereFaultless old new (AuditsExactly n old.left result)
Exactly cluster (Lock t) result old new = LocksExactly t result old.port new.port old.write_faults new.write_faults
Exactly cluster Delay result old new = WhereFaultless old new (PlansExactly Wanted.Schedule old.left result)
Exactly cluster DelayTimes result old new = WhereFaultless old new (PlansExactly Wanted.Times old.left result)
Exactly cluster ReplayMp result old new = WhereFaultless old new (ReplaysMpExactly old.left result)
Exactly cluster (Dump me n part) result old new = WhereFaultless old new (DumpsExactly me n part old.left old.written new.written result)
