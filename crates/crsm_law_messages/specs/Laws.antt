-- The laws of received and of sent control messages.
use Rattle.std.specs.Prelude.{◌≡◌, ℕ, ◌+◌, ◌<◌, IsTrue, length, Some, slice_get}
use Rattle.crsm_base.specs.Messages.{control_bytes, FitsControl}
use Rattle.crsm_base.specs.MessageReading.{control_of}
use Rattle.crsm_spec.specs.Types.{Decision, Control}
use Rattle.crsm_spec.specs.Log.{Log, known, decision, executed, suspended, promised, accepted}
use Rattle.crsm_spec.specs.Replica.{Replica}
use Rattle.crsm_spec.specs.Collect.{suspend_ok}
use Rattle.crsm_spec.specs.Controls.{page_from}
use Rattle.crsm_spec.specs.Step.{Input}
use Rattle.crsm_spec.specs.World.{Site, World, log_at}
use Rattle.crsm_fact_step.specs.Messages.{ReceivesControl}
use Rattle.crsm_fact_log.specs.Logs.{Extends}
use Rattle.crsm_law_steps.specs.Happenings.{Marks, CanCome, IsReached}
use Rattle.crsm_law_messages.specs.SentMessages.{SentMessage, WasSentBefore}

-- ---- messages received were sent

-- k sent j a message whose bytes are read as c
pub record IsSource (n : ℕ) (w : World) (k j : ℕ) (c : Control) : Type 0 where
  pub sent_message : SentMessage
  pub from : sent_message.from ≡ k
  pub to : sent_message.to ≡ j
  pub was_sent : WasSentBefore n w sent_message
  pub reads : control_of (control_bytes sent_message.message) ≡ Some c

-- Replica j receives c from k, whatever was lost, repeated or reordered.
pub record ReceivesIn (n : ℕ) (w : World) (k j : ℕ) (c : Control) : Type 0 where
  pub reached : IsReached n w
  pub marked : World
  pub marks : Marks w marked
  pub replica : Replica
  pub up : slice_get marked.sites j ≡ Some (Site.Up replica)
  pub input : Input
  pub can_come : CanCome w j input
  pub receives : ReceivesControl replica input k c

-- A control message that a replica receives from another was sent to it by that replica.
abbrev pub ReceivedWasSent : Type 0
ReceivedWasSent = (n : ℕ) (w : World) (k j : ℕ) (c : Control) → ReceivesIn n w k j c → IsSource n w k j c

-- If each message sent can be encoded, the message received is one that was sent.
abbrev pub ReceivedIsSent : Type 0
ReceivedIsSent =
    (n : ℕ) (w : World) (k j : ℕ) (c : Control) → ReceivesIn n w k j c → ((s : SentMessage) → WasSentBefore n w s → FitsControl s.message) →
    (s : SentMessage) × (s.from ≡ k) × (s.to ≡ j) × (s.message ≡ c) × WasSentBefore n w s

-- ---- what was sent is true

-- What a message says of its sender's log, as it was when the message was sent.
abbrev pub Says : Log → Control → Type 0
Says log (Control.Suspend e after) = e ≡ known log
Says log (Control.SuspendOk e done last after whole es) =
    IsTrue (suspended log) × (Control.SuspendOk e done last after whole es ≡ suspend_ok log after)
Says log (Control.P1a i b) = i ≡ known log + 1
Says log (Control.P1b i b v) = (i ≡ known log + 1) × (promised log ≡ b) × (v ≡ accepted log)
Says log (Control.P1no i b top) = (i ≡ known log + 1) × (top ≡ promised log)
Says log (Control.P2a i b d) = i ≡ known log + 1
Says log (Control.P2b i b) = (i ≡ known log + 1) × (d : Decision) × (accepted log ≡ Some (b, d))
Says log (Control.Decide d) = decision log ≡ Some d
Says log (Control.Retrieve e from) = (e ≡ known log) × (from ≡ length (executed log))
Says log (Control.Page e from es) = (from < length (executed log)) × (Control.Page e from es ≡ page_from log from)

-- A message sent is true of an earlier log of its sender, which the sender's log extends.
abbrev pub SentIsTrue : Type 0
SentIsTrue = (n : ℕ) (w : World) (s : SentMessage) → WasSentBefore n w s → (old : Log) × Extends old (log_at w s.from) × Says old s.message
