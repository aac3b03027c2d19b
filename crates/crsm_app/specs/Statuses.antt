-- The exit status of a status, and the status of a command with its end.
use Rattle.std.specs.Prelude.{ℕ, Result, Ok, Err}
use Rattle.crsm_client.specs.declared.command.ClientEnd.{ClientEnd}
use Rattle.crsm_client.specs.declared.error.OperateError.{OperateError}
use Rattle.crsm_delay.specs.declared.handling.PlanCause.{PlanCause}
use Rattle.crsm_port_lines.specs.declared.InputEnd.{InputEnd}
use Rattle.crsm_cmd_dump.specs.declared.ending.DumpEnd.{DumpEnd}
use Rattle.crsm_cmd_lock.specs.declared.command.LockEnd.{LockEnd}
use Rattle.crsm_node.specs.declared.errors.NodeEnd.{NodeEnd}
use Rattle.crsm_sim_schedule.specs.Causes as schedule
use Rattle.crsm_sim_schedule.specs.declared.Cause.{Cause}
use Rattle.crsm_cmd_replay_node.specs.Causes as sheet
use Rattle.crsm_cmd_replay_node.specs.declared.cause.SheetCause.{SheetCause}
use Rattle.crsm_app.specs.declared.status.Status.{Status}

-- the number that the program ends with
abbrev pub number_of : Status → ℕ
number_of Status.Ok = 0
number_of Status.Usage = 2
number_of (Status.BadInput line cause) = 3
number_of (Status.BadMpInput line cause) = 3
number_of Status.ReadFault = 4
number_of Status.WriteFault = 5
number_of Status.PortFault = 6
number_of Status.DiskFault = 7
number_of Status.NoMemory = 8
number_of Status.NoAnswer = 9
number_of (Status.BadLog entry why) = 10
number_of Status.LogFull = 11
number_of Status.InputTooLong = 12
number_of Status.LogTooLong = 12
number_of (Status.OtherCluster found) = 13

-- the status of a schedule that ended so
abbrev pub status_of_replay : InputEnd Cause → Status
status_of_replay InputEnd.Done = Status.Ok
status_of_replay (InputEnd.BadLine line why) = Status.BadInput line (schedule.cause_in why)
status_of_replay InputEnd.ReadFault = Status.ReadFault
status_of_replay InputEnd.WriteFault = Status.WriteFault
status_of_replay InputEnd.NoMemory = Status.NoMemory
status_of_replay InputEnd.InputTooLong = Status.InputTooLong

-- the status of a schedule of a store with a leader that ended so
abbrev pub status_of_replay_mp : InputEnd Cause → Status
status_of_replay_mp InputEnd.Done = Status.Ok
status_of_replay_mp (InputEnd.BadLine line why) = Status.BadMpInput line (schedule.cause_in why)
status_of_replay_mp InputEnd.ReadFault = Status.ReadFault
status_of_replay_mp InputEnd.WriteFault = Status.WriteFault
status_of_replay_mp InputEnd.NoMemory = Status.NoMemory
status_of_replay_mp InputEnd.InputTooLong = Status.InputTooLong

-- the status of a line of a sheet that is refused
abbrev pub status_of_refused : ℕ → SheetCause → Status
status_of_refused line SheetCause.Unreadable = Status.BadInput line Cause.Unreadable
status_of_refused line (SheetCause.BadLog entry why) = Status.BadLog entry why

-- the status of a sheet that ended so
abbrev pub status_of_sheet : InputEnd SheetCause → Status
status_of_sheet InputEnd.Done = Status.Ok
status_of_sheet (InputEnd.BadLine line why) = status_of_refused line (sheet.cause_in why)
status_of_sheet InputEnd.ReadFault = Status.ReadFault
status_of_sheet InputEnd.WriteFault = Status.WriteFault
status_of_sheet InputEnd.NoMemory = Status.NoMemory
status_of_sheet InputEnd.InputTooLong = Status.InputTooLong

-- the status of a plan that ended so
abbrev pub status_of_delay : InputEnd PlanCause → Status
status_of_delay InputEnd.Done = Status.Ok
status_of_delay (InputEnd.BadLine line why) = Status.BadInput line Cause.Unreadable
status_of_delay InputEnd.ReadFault = Status.ReadFault
status_of_delay InputEnd.WriteFault = Status.WriteFault
status_of_delay InputEnd.NoMemory = Status.NoMemory
status_of_delay InputEnd.InputTooLong = Status.InputTooLong

-- the status of a dump that ended so
abbrev pub status_of_dump : DumpEnd → Status
status_of_dump DumpEnd.Done = Status.Ok
status_of_dump (DumpEnd.BadLog entry why) = Status.BadLog entry why
status_of_dump DumpEnd.ReadFault = Status.ReadFault
status_of_dump DumpEnd.WriteFault = Status.WriteFault
status_of_dump DumpEnd.NoMemory = Status.NoMemory
status_of_dump DumpEnd.LogTooLong = Status.LogTooLong

-- the status of a client that ended so
abbrev pub status_of_client : ClientEnd → Status
status_of_client ClientEnd.Done = Status.Ok
status_of_client ClientEnd.PortFault = Status.PortFault
status_of_client ClientEnd.NoAnswer = Status.NoAnswer
status_of_client ClientEnd.WriteFault = Status.WriteFault
status_of_client ClientEnd.NoMemory = Status.NoMemory

-- the status of an operator who ended so
abbrev pub status_of_operate : {T : Type 0} → Result T OperateError → Status
status_of_operate (Ok _) = Status.Ok
status_of_operate (Err OperateError.PortFault) = Status.PortFault
status_of_operate (Err OperateError.NoMemory) = Status.NoMemory

-- the status of a client at a lock who ended so
abbrev pub status_of_lock : LockEnd → Status
status_of_lock LockEnd.Done = Status.Ok
status_of_lock LockEnd.PortFault = Status.PortFault
status_of_lock LockEnd.NoAnswer = Status.NoAnswer
status_of_lock LockEnd.WriteFault = Status.WriteFault
status_of_lock LockEnd.NoMemory = Status.NoMemory

-- the status of a node that ended so
abbrev pub status_of_node : NodeEnd → Status
status_of_node NodeEnd.Done = Status.Ok
status_of_node NodeEnd.PortFault = Status.PortFault
status_of_node NodeEnd.DiskFault = Status.DiskFault
status_of_node NodeEnd.LogFull = Status.LogFull
status_of_node NodeEnd.WriteFault = Status.WriteFault
status_of_node (NodeEnd.BadLog entry why) = Status.BadLog entry why
status_of_node (NodeEnd.OtherCluster found) = Status.OtherCluster found
status_of_node NodeEnd.NoMemory = Status.NoMemory
