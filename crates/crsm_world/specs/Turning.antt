-- The ending of a step, and the effects of a replica's turn.
use Rattle.std.specs.Prelude.{◌≡◌, ◌≤◌, ℕ, Option, Some, None, slice_get}
use Rattle.crsm_base.specs.MessageReading.{datagram_of}
use Rattle.crsm_base.specs.Messages.{datagram_bytes}
use Rattle.crsm_schedule.specs.declared.Single.{Single}
use Rattle.crsm_spec.specs.Node.{Turn, turn}
use Rattle.crsm_spec.specs.Types.{Command, Datagram}
use Rattle.crsm_spec.specs.World.{Site, World, Moment, Ending, whole_step, cut_step, lost_step}
use Rattle.crsm_spec.specs.Moments.{silent, cut_at}
use Rattle.crsm_world.specs.declared.ending.Ending.{Ending as EndingInMemory}
use Rattle.crsm_world.specs.declared.ending.Ending.TheVariants as endings

-- the ending of the step in the definitions
unfoldable pub ending_of : EndingInMemory → Ending
ending_of endings.Whole = whole_step
ending_of (endings.Kept sends) = cut_step sends
ending_of endings.Lost = lost_step
ending_of (endings.At stop) = cut_at stop.calls stop.fill

-- a put has four calls
abbrev pub FitsEnding : EndingInMemory → Type 0
FitsEnding (endings.At stop) = stop.calls ≤ 4
FitsEnding _ = Unit {0}

-- a turn at a machine. Only a replica that is up steps.
unfoldable pub turn_at_machine : Ending → World → ℕ → Turn → ℕ → Option Site → Moment
turn_at_machine ends w k t reading (Some (Site.Up r)) = ends w k (turn r (t, reading))
turn_at_machine ends w k t reading _ = silent w w

-- a turn of replica k
unfoldable pub turn_at : Ending → World → ℕ → Turn → ℕ → Moment
turn_at ends w k t reading = turn_at_machine ends w k t reading (slice_get w.sites k)

-- the turn in which a client's command comes
abbrev pub request_turn : Command → Turn
request_turn command = Turn.In command.client (datagram_bytes (Datagram.Request command))

-- bytes from nowhere are no datagram
abbrev pub IsGenuine : Single → Type 0
IsGenuine (Single.Junk replica reading bytes) = datagram_of bytes ≡ None
IsGenuine _ = Unit {0}
