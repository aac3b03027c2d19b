-- The invariant of a run: each of its lines is true.
use Rattle.std.specs.Prelude.{◌≡◌, ◌≢◌, ℕ, ◌<◌, ◌≤◌, take, List, length, Contains, None, Some, slice_get}
use Rattle.crsm_mpspec.specs.declared.MpLine.{MpLine}
use Rattle.crsm_mpspec.specs.Types.{Command, Answer, Value}
use Rattle.crsm_mpspec.specs.Log.{executed}
use Rattle.crsm_mpspec.specs.Values.{answer_after}
use Rattle.crsm_mpspec.specs.Replica.{Replica, Waiting}
use Rattle.crsm_mpspec.specs.World.{Site, World, log_at}
use Rattle.crsm_mpspec.specs.Run.{TraceLine}
use Rattle.crsm_mpspec.specs.Safe.{IsSubmitAt, WasSubmitted}
use Rattle.crsm_law_mp.specs.Slots.{Past}
use Rattle.crsm_law_mp.specs.Seats.{IsSound}

-- the executed list of some replica in one of these worlds
pub record IsList (worlds : List World) (es : List Value) : Type 0 where
  pub world : World
  pub of : Contains worlds world
  pub replica : ℕ
  pub below : replica < length world.sites
  pub is : es ≡ executed (log_at world replica)

-- the command is at the slot of such a list, and this is the answer to it
pub record IsAnswered (worlds : List World) (slot client number : ℕ) (a : Answer) : Type 0 where
  pub es : List Value
  pub list : IsList worlds es
  pub command : Command
  pub at : slice_get es slot ≡ Some (Some command)
  pub answer : a ≡ answer_after (take slot es) command
  pub of_client : command.client ≡ client
  pub of_number : command.number ≡ number

-- a line before the i-th is the submission of the command
pub record IsEarlier (lines : List TraceLine) (i : ℕ) (c : Command) : Type 0 where
  pub line : ℕ
  pub before : line < i
  pub replica : ℕ
  pub slot : ℕ
  pub submitted : IsSubmitAt lines line replica slot c

-- A reply with it; and each command up to its slot was submitted before.
pub record IsReplied (lines : List TraceLine) (worlds : List World) (i k slot client number : ℕ) (a : Answer) : Type 0 where
  pub answered : IsAnswered worlds slot client number a
  pub submitted : WasSubmitted lines i k slot client number answered.command
  pub earlier : (q : ℕ) (d : Command) → q ≤ slot → slice_get answered.es q ≡ Some (Some d) → IsEarlier lines i d

-- another value than the command is at the slot
pub record IsDropped (lines : List TraceLine) (worlds : List World) (i k slot client number : ℕ) : Type 0 where
  pub es : List Value
  pub list : IsList worlds es
  pub command : Command
  pub value : Value
  pub at : slice_get es slot ≡ Some value
  pub other : value ≢ Some command
  pub submitted : WasSubmitted lines i k slot client number command

-- the i-th line is right
abbrev pub IsRightLine : List TraceLine → List World → ℕ → MpLine → Type 0
IsRightLine lines worlds i (MpLine.Exec k slot client number a) = IsAnswered worlds slot client number a
IsRightLine lines worlds i (MpLine.ExecNoop k slot) = (es : List Value) × IsList worlds es × (slice_get es slot ≡ Some None)
IsRightLine lines worlds i (MpLine.ReplyOk k client number slot a) = IsReplied lines worlds i k slot client number a
IsRightLine lines worlds i (MpLine.ReplyDropped k client number slot) = IsDropped lines worlds i k slot client number
IsRightLine lines worlds i _ = Unit {0}

-- The invariant of a run: its world is sound, each world has n replicas, what was executed in any of its worlds is
-- known, all that was submitted and that clients wait for has a line, and each line is right.
pub record Kept (n : ℕ) (lines : List TraceLine) (worlds : List World) (w : World) : Type 0 where
  pub past : Past
  pub sound : IsSound n past w
  pub sizes : (v : World) → Contains worlds v → length v.sites ≡ n
  pub known : (es : List Value) → IsList worlds es → (s : ℕ) (u : Value) → slice_get es s ≡ Some u → Contains past.known (s, u)
  pub submitted : (c : Command) → Contains past.submitted c → IsEarlier lines (length lines) c
  pub waits : (k : ℕ) (r : Replica) → slice_get w.sites k ≡ Some (Site.Up r) → (wt : Waiting) → Contains r.waiting wt →
      WasSubmitted lines (length lines) k wt.slot wt.command.client wt.command.number wt.command
  pub right : (i : ℕ) (t : TraceLine) → slice_get lines i ≡ Some t → IsRightLine lines worlds i t.line
