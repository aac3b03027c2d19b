-- Happenings: the changes of a world at one moment, whatever the act, so that a law about runs is an induction over
-- them.
use Rattle.std.specs.Prelude.{◌≡◌, ℕ, ◌<◌, ◌^◌, ◌⊎◌, Bool, false, List, [], ◌∷◌, length, Some, slice_get}
use Rattle.crsm_base.specs.Members.{IsMembers}
use Rattle.crsm_base.specs.Spelling.{FitsCommand}
use Rattle.crsm_spec.specs.Types.{Command, Datagram, Outcome}
use Rattle.crsm_spec.specs.Lists.{Among}
use Rattle.crsm_spec.specs.Replica.{Replica}
use Rattle.crsm_spec.specs.Draft.{Draft, begun}
use Rattle.crsm_spec.specs.Step.{Input, step}
use Rattle.crsm_spec.specs.World.{Site, World, Moment, begin, is_up_at, whole_step, cut_step, lost_step, down}
use Rattle.crsm_spec.specs.Acts.{Act}
use Rattle.crsm_spec.specs.Moments.{use_up, silent, begun_at, with_room, start_at}
use Rattle.crsm_spec.specs.Safe.{command_of}

-- some datagrams of the world are marked as used
pub data Marks (w : World) : World → Type 0 where
  none : Marks w w
  mark : {v : World} (i : ℕ) → Marks w v → Marks w (use_up i v)

-- the datagram was sent, whether it is used or not
abbrev pub WasSent : World → ℕ → ℕ → Datagram → Type 0
WasSent w from to d = (used : Bool) × Among w.packets (record { from = from; to = to; datagram = d; used = used })

-- An input that replica k can receive: a datagram sent to it, a client's command, a tick or a suspicion.
pub data CanCome (w : World) (k : ℕ) : Input → Type 0 where
  IsPacket : (from : ℕ) (d : Datagram) → WasSent w from k d → CanCome w k (Input.Came from d)
  IsCommand : (address : ℕ) (c : Command) → FitsCommand c → CanCome w k (Input.Came address (Datagram.Request c))
  IsReply : (address client number : ℕ) (told : Outcome) → CanCome w k (Input.Came address (Datagram.Reply client number told))
  IsTick : CanCome w k Input.Ticked
  IsSuspicion : (ms : List ℕ) → IsMembers ms → CanCome w k (Input.Suspected ms)

-- A step ends whole, or stops with or without its batch kept.
pub data Ends (w : World) (k : ℕ) (x : Draft) : Moment → Type 0 where
  IsWhole : Ends w k x (whole_step w k x)
  IsCut : (count : ℕ) → Ends w k x (cut_step count w k x)
  IsLost : Ends w k x (lost_step w k x)

-- What can happen at one moment.
pub data Happens (w : World) : Moment → Type 0 where
  -- no replica steps: some datagrams are lost
  Nothing : (v : World) → Marks w v → Happens w (silent w v)
  -- a replica makes a step, on a datagram that becomes used or on any other input that it can receive
  Steps : (v : World) → Marks w v → (k : ℕ) (r : Replica) → slice_get v.sites k ≡ Some (Site.Up r) → (input : Input) (reading : ℕ) → reading < 2 ^ 64 →
      CanCome w k input → (m : Moment) → Ends v k (step r input reading) m → Happens w (begun_at w m)
  -- a replica receives bytes that are no datagram
  Junk : (k : ℕ) (r : Replica) → slice_get w.sites k ≡ Some (Site.Up r) → (m : Moment) → Ends w k (begun r) m → Happens w (begun_at w m)
  Stops : (k : ℕ) → Happens w (down w k)
  -- the next new number is a replica's, which has not started
  Joins : length w.sites < 15 → Happens w (silent w (with_room w (length w.sites)))
  -- a replica that is down starts, or the next new one
  Starts : (k : ℕ) → is_up_at w k ≡ false → (k < length w.sites) ⊎ ((k ≡ length w.sites) × (k < 15)) → Happens w (start_at w k)

-- A world that some happenings in a cluster of n replicas lead to.
pub data IsReached (n : ℕ) : World → Type 0 where
  first : IsReached n (begin n)
  next : {w : World} {m : Moment} → IsReached n w → Happens w m → IsReached n m.after

-- the command is the request of this act
abbrev pub Brings : Act → {w : World} {k : ℕ} {input : Input} → CanCome w k input → Type 0
Brings a (CanCome.IsPacket from d s) = Unit {0}
Brings a (CanCome.IsCommand address c f) = command_of (Some a) ≡ Some c
Brings a (CanCome.IsReply address client number told) = Unit {0}
Brings a CanCome.IsTick = Unit {0}
Brings a (CanCome.IsSuspicion ms f) = Unit {0}

abbrev pub IsLedBy : Act → {w : World} {m : Moment} → Happens w m → Type 0
IsLedBy a (Happens.Nothing v p) = Unit {0}
IsLedBy a (Happens.Steps v p k r e input reading lt c m ends) = Brings a c
IsLedBy a (Happens.Junk k r e m ends) = Unit {0}
IsLedBy a (Happens.Stops k) = Unit {0}
IsLedBy a (Happens.Joins f) = Unit {0}
IsLedBy a (Happens.Starts k d f) = Unit {0}

-- Each of these moments follows the one before, beginning at w, and the act leads to it there.
abbrev pub GoOnBy : Act → World → List Moment → Type 0
GoOnBy a w [] = Unit {0}
GoOnBy a w (m ∷ ms) = (m.before ≡ w) × ((h : Happens w m) × IsLedBy a h) × GoOnBy a m.after ms

-- Each of these moments follows the one before, beginning at w, and can happen there.
abbrev pub GoOn : World → List Moment → Type 0
GoOn w [] = Unit {0}
GoOn w (m ∷ ms) = (m.before ≡ w) × Happens w m × GoOn m.after ms
