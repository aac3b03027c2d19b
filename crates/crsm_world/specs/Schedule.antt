-- Schedules: their text, which of them can be run, and the transcript of a run.
use Rattle.std.specs.Prelude.{◌≡◌, ℕ, zero, suc, ◌+◌, List, [], ◌∷◌, ◌++◌, length, map, Option, Some, None, slice_get}
use Rattle.std.specs.List.{AllByRecursion, flat_map}
use Rattle.crsm_spec.specs.Types.{Line}
use Rattle.crsm_spec.specs.World.{World, begin, first_lines, finals}
use Rattle.crsm_spec.specs.Acts.{Act}
use Rattle.crsm_spec.specs.Moments.{act}
use Rattle.crsm_spec.specs.Possible.{possible}
use Rattle.crsm_spec.specs.Run.{TraceLine, traced, ArePossible, seen, last_world as world_at_end}
use Rattle.crsm_schedule.specs.declared.Event.{Event}
use Rattle.crsm_schedule.specs.Grammar.{IsSize, FitsEvent, first_text, event_text}
use Rattle.crsm_schedule.specs.Transcript.{line_text, lines_text}
use Rattle.crsm_world.specs.Doing.{act_of}

-- how many replicas there are at first, and what happens
pub record Schedule : Type 0 where
  pub replicas : ℕ
  pub events : List Event

-- nothing has happened yet
unfoldable pub no_events : ℕ → Schedule
no_events n = record { replicas = n; events = [] }

-- the schedule with one more event
unfoldable pub with_event : Schedule → Event → Schedule
with_event s e = record s { events = s.events ++ e ∷ [] }

-- how many lines it has
unfoldable pub line_count : Schedule → ℕ
line_count s = 1 + length s.events

-- a line and its end
abbrev pub ended : List ℕ → List ℕ
ended line = line ++ 10 ∷ []

-- the text of a schedule
unfoldable pub schedule_text : Schedule → List ℕ
schedule_text s = ended (first_text s.replicas) ++ flat_map (λ e. ended (event_text e)) s.events

-- the events, as acts of the world
unfoldable pub acts_of : Schedule → List Act
acts_of s = map act_of s.events

-- a line is the text of the event, which is possible here
pub record IsNext (w : World) (e : Event) : Type 0 where
  pub fits : FitsEvent e
  pub possible_here : possible w (act_of e) ≡ None

-- Lines are the text of the schedule, and each event is possible in the world of those before.
pub record IsSchedule (s : Schedule) : Type 0 where
  pub size : IsSize s.replicas
  pub fit : AllByRecursion FitsEvent s.events
  pub possible : ArePossible (begin s.replicas) (acts_of s)

-- the world at the end of a schedule
unfoldable pub last_world : Schedule → World
last_world s = world_at_end s.replicas (acts_of s)

-- ---- what a run writes

-- A line that is seen, and the number of the schedule's line that led to it.
pub record Shown : Type 0 where
  pub at : ℕ
  pub told : TraceLine

-- the line, by this act on this line of the schedule
unfoldable pub shown_by : ℕ → Option Act → Line → Shown
shown_by at by line = record { at = at; told = traced by line }

-- the lines of events, of which the first is on this line of the schedule
unfoldable pub shown_from : World → ℕ → List Event → List Shown
shown_from w at [] = []
shown_from w at (e ∷ es) =
    let m = act w (act_of e) in map (shown_by at (Some (act_of e))) m.lines ++ shown_from m.after (at + 1) es

-- All lines of a schedule but the final ones. The first boots belong to its first line.
unfoldable pub shown : Schedule → List Shown
shown s = map (shown_by 1 None) (first_lines s.replicas) ++ shown_from (begin s.replicas) 2 s.events

-- the text of a line that is seen
unfoldable pub text_of : Shown → List ℕ
text_of x = line_text x.at x.told.line

-- the transcript of a schedule
unfoldable pub transcript : Schedule → List ℕ
transcript s = flat_map text_of (shown s)

-- The text of its final lines. They have no number.
unfoldable pub finals_text : Schedule → List ℕ
finals_text s = lines_text 0 (finals (last_world s))

-- ---- what the transcript has

-- the act on this line of the schedule; the first line has none
unfoldable pub act_on : Schedule → ℕ → Option Act
act_on s zero = None
act_on s (suc zero) = None
act_on s (suc (suc i)) = slice_get (acts_of s) i

-- The transcript has all lines that are seen, in order, each with the number of the line of the schedule that led to
-- it.
pub record ShowsAll (s : Schedule) : Type 0 where
  pub all : map (λ x. x.told) (shown s) ≡ seen s.replicas (acts_of s)
  pub numbered : AllByRecursion (λ x. x.told.by ≡ act_on s x.at) (shown s)
