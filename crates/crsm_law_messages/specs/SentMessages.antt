-- Control messages as they were sent, and the moments at which they were.
use Rattle.std.specs.Prelude.{◌≡◌, ℕ, ◌<◌, ◌^◌, Some, slice_get}
use Rattle.crsm_spec.specs.Types.{Control}
use Rattle.crsm_spec.specs.Log.{boots}
use Rattle.crsm_spec.specs.Replica.{Replica}
use Rattle.crsm_spec.specs.Draft.{Draft, begun}
use Rattle.crsm_spec.specs.Step.{Input, step}
use Rattle.crsm_spec.specs.World.{Site, World, Moment, log_at}
use Rattle.crsm_spec.specs.Moments.{begun_at}
use Rattle.crsm_fact_step.specs.Messages.{IsSent, Answers}
use Rattle.crsm_fact_step.specs.Changes.{Changes}
use Rattle.crsm_law_steps.specs.Happenings.{Marks, CanCome, Ends, Happens, IsReached}

-- A control message as it was sent: its sender, its receiver, and the boot and number that identify it.
pub record SentMessage : Type 0 where
  pub from : ℕ
  pub to : ℕ
  pub boot : ℕ
  pub number : ℕ
  pub message : Control

-- In a step of r on this input the draft's replica sends the message next: it says what the replica's log and
-- coordinator are, and if it is an answer it answers the input.
pub record IsSentBy (r : Replica) (input : Input) (x : Draft) (s : SentMessage) : Type 0 where
  pub from : x.replica.me ≡ s.from
  pub boot : boots x.replica.log ≡ s.boot
  pub number : x.replica.made ≡ s.number
  pub is : IsSent x s.message
  pub answers : Answers r input s.message

-- happenings lead from the first world to the second
pub data GoesOn (v : World) : World → Type 0 where
  here : GoesOn v v
  on : {u : World} {m : Moment} → GoesOn v u → Happens u m → GoesOn v m.after

-- A draft of replica k at an earlier moment on the way to w, of a step whose records are kept.
pub record Past (n : ℕ) (w : World) (k : ℕ) : Type 0 where
  pub world : World
  pub reached : IsReached n world
  pub marked : World
  pub marks : Marks world marked
  pub replica : Replica
  pub up : slice_get marked.sites k ≡ Some (Site.Up replica)
  pub input : Input
  pub reading : ℕ
  pub small : reading < 2 ^ 64
  pub can_come : CanCome world k input
  pub draft : Draft
  pub before : Changes replica input reading (begun replica) draft
  pub after : Changes replica input reading draft (step replica input reading)
  pub moment : Moment
  pub happens : Happens world (begun_at world moment)
  pub ends : Ends marked k (step replica input reading) moment
  pub kept : log_at moment.after k ≡ (step replica input reading).replica.log
  pub since : GoesOn moment.after w

-- The message was sent at an earlier moment on the way to w.
pub record WasSentBefore (n : ℕ) (w : World) (s : SentMessage) : Type 0 where
  pub past : Past n w s.from
  pub sent : IsSentBy past.replica past.input past.draft s
