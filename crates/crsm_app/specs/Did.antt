-- The effects of a command, by its status.
use Rattle.std.specs.Prelude.{◌≡◌, ◌⊎◌, ℕ, List, Option, Result}
use Rattle.crsm_audit.specs.Handled.{audited}
use Rattle.crsm_client.specs.Commands.{ClientRan}
use Rattle.crsm_client.specs.Operating.{Operates}
use Rattle.crsm_client.specs.declared.command.ClientEnd.{ClientEnd}
use Rattle.crsm_client.specs.declared.command.ClientOrder.{ClientOrder}
use Rattle.crsm_client.specs.declared.error.OperateError.{OperateError}
use Rattle.crsm_delay.specs.Reading.{plans_of}
use Rattle.crsm_delay.specs.declared.handling.PlanCause.{PlanCause}
use Rattle.crsm_delay.specs.declared.handling.Wanted.{Wanted}
use Rattle.crsm_port_lines.specs.Run as lines
use Rattle.crsm_port_lines.specs.declared.LineRefusal.{LineRefusal}
use Rattle.crsm_io.specs.Streams.{Puts, PutsPrefix}
use Rattle.crsm_cmd_dump.specs.Run as dumped
use Rattle.crsm_cmd_lock.specs.Commands.{LockRan}
use Rattle.crsm_cmd_lock.specs.declared.command.LockEnd.{LockEnd}
use Rattle.crsm_node.specs.Order.{peers_in}
use Rattle.crsm_node.specs.Running.{Devices as NodeDevices, RunsOverCluster}
use Rattle.crsm_node.specs.declared.errors.NodeEnd.{NodeEnd}
use Rattle.crsm_node.specs.declared.order.NodeOrder.{NodeOrder}
use Rattle.crsm_port.specs.Meaning.{Meaning}
use Rattle.crsm_cmd_replay.specs.Run as schedule
use Rattle.crsm_sim_schedule.specs.declared.Cause.{Cause}
use Rattle.crsm_mpreplay.specs.Run as led
use Rattle.crsm_cmd_replay_node.specs.Causes.{cause_in}
use Rattle.crsm_cmd_replay_node.specs.Run as sheet
use Rattle.crsm_cmd_replay_node.specs.declared.cause.SheetCause.{SheetCause}
use Rattle.crsm_cmd_soak.specs.Soak.{drawn}
use Rattle.crsm_cmd_soak.specs.Text.{soak_text}
use Rattle.crsm_text_words.specs.declared.order.DumpPart.{DumpPart}
use Rattle.crsm_text_words.specs.declared.order.LockTask.{LockTask}
use Rattle.crsm_text_words.specs.declared.order.NodeTask.{NodeTask}
use Rattle.crsm_text_words.specs.declared.order.Task.{Task}
use Rattle.crsm_text_words.specs.declared.order.Task.TheVariants.{Show, Replay, ReplayNode, Client, Operate, Soak, Node, Audit, Lock, Delay, DelayTimes, ReplayMp, Dump}
use Rattle.crsm_world.specs.Laws.{IsLawful}
use Rattle.crsm_world.specs.Schedule.{acts_of}
use Rattle.crsm_app.specs.Devices.{Devices, SameDisk, node_devices}
use Rattle.crsm_app.specs.Locks.{lock_order}
use Rattle.crsm_app.specs.Parts.{part_of}
use Rattle.crsm_app.specs.Statuses.{status_of_client, status_of_lock, status_of_node, status_of_operate}
use Rattle.crsm_app.specs.declared.status.Status.{Status}

-- In these the source had `before` and has `after` left, and the sink had `had` and has `has` written.

-- a text was written, or a prefix of it where the output failed
abbrev pub Shows : List ℕ → Status → (had has : Option (List ℕ)) → Type 0
Shows text Status.Ok had has = Puts had has text
Shows text Status.WriteFault had has = PutsPrefix had has text
Shows text _ had has = ⊥

-- a schedule was run
unfoldable pub DidReplay : Status → (before after had has : Option (List ℕ)) → Type 0
DidReplay Status.Ok before after had has = schedule.RanToEnd before after had has
DidReplay (Status.BadInput line cause) before after had has = schedule.RanToBad before after had has line cause
DidReplay Status.ReadFault before after had has = schedule.RanSoFar before after had has
DidReplay Status.WriteFault before after had has = schedule.RanPartly before after had has
DidReplay Status.NoMemory before after had has = schedule.RanPartly before after had has
DidReplay Status.InputTooLong before after had has = schedule.RanTooLong before after had has
DidReplay _ before after had has = ⊥

-- A schedule of a store with a leader was run, and its laws hold of what was read.
unfoldable pub DidReplayMp : Status → (before after had has : Option (List ℕ)) → Type 0
DidReplayMp Status.Ok before after had has = led.RanToEnd before after had has
DidReplayMp (Status.BadMpInput line cause) before after had has = led.RanToBad before after had has line cause
DidReplayMp Status.ReadFault before after had has = led.RanSoFar before after had has
DidReplayMp Status.WriteFault before after had has = led.RanPartly before after had has
DidReplayMp Status.NoMemory before after had has = led.RanPartly before after had has
DidReplayMp Status.InputTooLong before after had has = led.RanTooLong before after had has
DidReplayMp _ before after had has = ⊥

-- the sheet of replica me was run, in a cluster that began with n
unfoldable pub DidSheet : (me n : ℕ) → Status → (before after had has : Option (List ℕ)) → Type 0
DidSheet me n Status.Ok before after had has = sheet.RanToEnd me n before after had has
DidSheet me n (Status.BadInput line cause) before after had has = (cause ≡ Cause.Unreadable) × sheet.RanToBad me n before after had has line SheetCause.Unreadable
DidSheet me n (Status.BadLog entry why) before after had has = (line : ℕ) × sheet.RanToBad me n before after had has line (SheetCause.BadLog entry why)
DidSheet me n Status.ReadFault before after had has = sheet.RanSoFar me n before after had has
DidSheet me n Status.WriteFault before after had has = sheet.RanPartly me n before after had has
DidSheet me n Status.NoMemory before after had has = sheet.RanPartly me n before after had has
DidSheet me n Status.InputTooLong before after had has = sheet.RanTooLong me n before after had has
DidSheet me n _ before after had has = ⊥

-- The sheets of nodes of a cluster that began with n were audited, and what they come to was written.
unfoldable pub DidAudit : (n : ℕ) → Status → (before after had has : Option (List ℕ)) → Type 0
DidAudit n Status.Ok before after had has = lines.RanToEnd (audited n) before after had has
DidAudit n (Status.BadInput line cause) before after had has =
    (cause ≡ Cause.Unreadable) × (why : LineRefusal SheetCause) × (cause_in why ≡ SheetCause.Unreadable) × lines.RanToBad (audited n) before after had has line why
DidAudit n (Status.BadLog entry why) before after had has = (line : ℕ) × lines.RanToBad (audited n) before after had has line (LineRefusal.Refused (SheetCause.BadLog entry why))
DidAudit n Status.ReadFault before after had has = lines.RanSoFar (audited n) before after had has
DidAudit n Status.WriteFault before after had has = lines.RanPartly (audited n) before after had has
DidAudit n Status.NoMemory before after had has = lines.RanPartly (audited n) before after had has
DidAudit n Status.InputTooLong before after had has = lines.RanTooLong (audited n) before after had has
DidAudit n _ before after had has = ⊥

-- a plan was read, and the wanted text was written: the schedule of a timeline, or the moments at which its command
-- commits
unfoldable pub DidPlan : Wanted → Status → (before after had has : Option (List ℕ)) → Type 0
DidPlan wanted Status.Ok before after had has = lines.RanToEnd (plans_of wanted) before after had has
DidPlan wanted (Status.BadInput line cause) before after had has =
    (cause ≡ Cause.Unreadable) × (why : LineRefusal PlanCause) × lines.RanToBad (plans_of wanted) before after had has line why
DidPlan wanted Status.ReadFault before after had has = lines.RanSoFar (plans_of wanted) before after had has
DidPlan wanted Status.WriteFault before after had has = lines.RanPartly (plans_of wanted) before after had has
DidPlan wanted Status.NoMemory before after had has = lines.RanPartly (plans_of wanted) before after had has
DidPlan wanted Status.InputTooLong before after had has = lines.RanTooLong (plans_of wanted) before after had has
DidPlan wanted _ before after had has = ⊥

-- the log file of replica me was read, in a cluster that began with n, and the wanted part of its dump was written
unfoldable pub DidDump : (me n : ℕ) → DumpPart → Status → (before after had has : Option (List ℕ)) → Type 0
DidDump me n part Status.Ok before after had has = dumped.RanToEnd me n (part_of part) before after had has
DidDump me n part (Status.BadLog entry why) before after had has = dumped.RanToBad me n before after had has entry why
DidDump me n part Status.ReadFault before after had has = dumped.RanSoFar before after had has
DidDump me n part Status.WriteFault before after had has = dumped.RanPartly me n (part_of part) before after had has
DidDump me n part Status.NoMemory before after had has = dumped.RanSoFar before after had has
DidDump me n part Status.LogTooLong before after had has = dumped.RanTooLong before after had has
DidDump me n part _ before after had has = ⊥

-- a command was requested from a replica, over a port whose datagrams begin with the mark of a cluster
pub record DidClient (cluster : ℕ) (order : ClientOrder) (result : Status) (old new : Meaning) (had has : Option (List ℕ)) : Type 0 where
  pub ended : ClientEnd
  pub status : result ≡ status_of_client ended
  pub ran : ClientRan cluster order old new had has ended

-- a replica was asked for another membership, over such a port
pub record DidOperate (cluster to : ℕ) (members : List ℕ) (result : Status) (old new : Meaning) : Type 0 where
  pub ended : Result (Unit {0}) OperateError
  pub status : result ≡ status_of_operate ended
  pub operates : Operates cluster to members old new ended

-- a replica was asked about a lock
pub record DidLock (t : LockTask) (result : Status) (old new : Meaning) (had has : Option (List ℕ)) : Type 0 where
  pub ended : LockEnd
  pub status : result ≡ status_of_lock ended
  pub ran : LockRan (lock_order t) old new had has ended

-- The run generated from a number was executed, and all laws hold for it: its summary was written, or a prefix if the
-- output failed.
abbrev pub DidSoak : (number n steps : ℕ) → Status → (had has : Option (List ℕ)) → Type 0
DidSoak number n steps Status.Ok had has = IsLawful n (acts_of (drawn number n steps)) × Puts had has (soak_text (drawn number n steps))
DidSoak number n steps Status.WriteFault had has = IsLawful n (acts_of (drawn number n steps)) × PutsPrefix had has (soak_text (drawn number n steps))
DidSoak number n steps Status.NoMemory had has = PutsPrefix had has (soak_text (drawn number n steps))
DidSoak number n steps _ had has = ⊥

-- the parameters of a node are those of the words
pub record IsNodeOrder (cluster : ℕ) (t : NodeTask) (order : NodeOrder) : Type 0 where
  pub me : order.me ≡ t.me
  pub n : order.n ≡ t.n
  pub turns : order.turns ≡ t.turns
  pub peers : peers_in order ≡ t.peers
  pub cluster_is : order.cluster ≡ cluster

-- a node ran, from its start to its end
pub record RanNode (cluster : ℕ) (t : NodeTask) (result : Status) (old new : NodeDevices) : Type 0 where
  pub order : NodeOrder
  pub is_order : IsNodeOrder cluster t order
  pub ended : NodeEnd
  pub status : result ≡ status_of_node ended
  pub ran : RunsOverCluster order old new ended

-- or memory ran out before it began, and all stand as they stood
pub record NodeHasNoMemory (result : Status) (old new : NodeDevices) : Type 0 where
  pub status : result ≡ Status.NoMemory
  pub disk : SameDisk old.disk new.disk
  pub port : new.port ≡ old.port
  pub clock : new.clock ≡ old.clock
  pub sheet : new.sheet ≡ old.sheet

abbrev pub DidNode : (cluster : ℕ) → NodeTask → Status → (old new : NodeDevices) → Type 0
DidNode cluster t result old new = RanNode cluster t result old new ⊎ NodeHasNoMemory result old new

-- a task was done in a cluster
abbrev pub Did : (cluster : ℕ) → Task → Status → (old new : Devices) → Type 0
Did cluster (Show text) result old new = (new.left ≡ old.left) × Shows text result old.written new.written
Did cluster Replay result old new = DidReplay result old.left new.left old.written new.written
Did cluster (ReplayNode me n) result old new = DidSheet me n result old.left new.left old.written new.written
Did cluster (Client to turns command) result old new =
    (new.left ≡ old.left) × DidClient cluster (record { to = to; turns = turns; command = command }) result old.port new.port old.written new.written
Did cluster (Operate to members) result old new = (new.left ≡ old.left) × (new.written ≡ old.written) × DidOperate cluster to members result old.port new.port
Did cluster (Soak number n steps) result old new = (new.left ≡ old.left) × DidSoak number n steps result old.written new.written
Did cluster (Node t) result old new = (new.left ≡ old.left) × DidNode cluster t result (node_devices old) (node_devices new)
Did cluster (Audit n) result old new = DidAudit n result old.left new.left old.written new.written
Did cluster (Lock t) result old new = (new.left ≡ old.left) × DidLock t result old.port new.port old.written new.written
Did cluster Delay result old new = DidPlan Wanted.Schedule result old.left new.left old.written new.written
Did cluster DelayTimes result old new = DidPlan Wanted.Times result old.left new.left old.written new.written
Did cluster ReplayMp result old new = DidReplayMp result old.left new.left old.written new.written
Did cluster (Dump me n part) result old new = DidDump me n part result old.left new.left old.written new.written
