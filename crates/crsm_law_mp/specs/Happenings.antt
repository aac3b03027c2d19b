-- Happenings: the changes of a world at one moment, whatever the act, so that a law about runs is an induction over
-- them.
use Rattle.std.specs.Prelude.{◌≡◌, ℕ, ◌<◌, ◌⊎◌, List, length, Contains, Option, Some, slice_get}
use Rattle.crsm_mpspec.specs.declared.MpInput.{MpInput}
use Rattle.crsm_mpspec.specs.declared.MpLine.{MpLine}
use Rattle.crsm_mpspec.specs.Types.{Command}
use Rattle.crsm_mpspec.specs.Replica.{Replica}
use Rattle.crsm_mpspec.specs.Draft.{Draft}
use Rattle.crsm_mpspec.specs.Step.{step, boot}
use Rattle.crsm_mpspec.specs.World.{Site, Packet, World, Moment, log_at, whole_step, cut_step, lost_step, down}
use Rattle.crsm_mpspec.specs.Moments.{use_up, silent, begun_at}
use Rattle.crsm_law_mp.specs.Slots.{Past}
use Rattle.crsm_law_mp.specs.Seats.{IsSound}

-- the world, or the same with a message that becomes used
pub data Marks (w : World) : World → Type 0 where
  none : Marks w w
  mark : (i : ℕ) → Marks w (use_up i w)

-- An input that can be received: a client's command, a message that was sent, a tick, or a request to lead.
abbrev pub CanCome : World → Option Command → MpInput → ℕ → Type 0
CanCome w command (MpInput.Request c) from = command ≡ Some c
CanCome w command (MpInput.Message m) from = (p : Packet) × Contains w.packets p × (p.from ≡ from) × (p.message ≡ m)
CanCome w command MpInput.Tick from = Unit {0}
CanCome w command MpInput.Lead from = Unit {0}

-- A step ends whole, or stops with or without its batch kept.
pub data Ends (w : World) (k : ℕ) (x : Draft) : Moment → Type 0 where
  IsWhole : Ends w k x (whole_step w k x)
  IsCut : (count : ℕ) → Ends w k x (cut_step count w k x)
  IsLost : Ends w k x (lost_step w k x)

-- What can happen at one moment of an act, with the command of the act if it is a request.
pub data Happens (w : World) (command : Option Command) : Moment → Type 0 where
  Nothing : (v : World) → Marks w v → Happens w command (silent w v)
  Steps : (v : World) → Marks w v → (k : ℕ) (r : Replica) → slice_get v.sites k ≡ Some (Site.Up r) → (input : MpInput) (from : ℕ) → CanCome w command input from →
      (m : Moment) → Ends v k (step r input from) m → Happens w command (begun_at w m)
  Stops : (k : ℕ) → Happens w command (down w k)
  Starts : (k : ℕ) → k < length w.sites → Happens w command (whole_step w k (boot k w.n (log_at w k)))

-- a line of the moment is the submission of the command
pub record Tells (lines : List MpLine) (c : Command) : Type 0 where
  pub replica : ℕ
  pub slot : ℕ
  pub round : ℕ
  pub told : Contains lines (MpLine.Submit replica slot round replica c.client c.number)

-- the past is the same, or has the act's command besides, with a line of its submission
pub record IsNext (past more : Past) (command : Option Command) (lines : List MpLine) : Type 0 where
  pub submitted : (c : Command) → Contains more.submitted c → Contains past.submitted c ⊎ ((command ≡ Some c) × Tells lines c)
  pub known : more.known ≡ past.known

-- each moment leaves a sound world sound
abbrev pub MomentsKeepSound : Type 0
MomentsKeepSound =
    (n : ℕ) (past : Past) (w : World) (command : Option Command) (m : Moment) → IsSound n past w → Happens w command m →
    (more : Past) × IsSound n more m.after × IsNext past more command m.lines
