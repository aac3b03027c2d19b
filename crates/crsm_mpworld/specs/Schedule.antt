-- Schedules: their text, and which of them can be run.
use Rattle.std.specs.Prelude.{◌≡◌, ℕ, ◌+◌, List, [], ◌∷◌, ◌++◌, length, map, None}
use Rattle.std.specs.List.{AllByRecursion, flat_map}
use Rattle.crsm_spec.specs.Acts.{Act}
use Rattle.crsm_schedule.specs.declared.Event.{Event}
use Rattle.crsm_schedule.specs.Grammar.{IsSize, FitsEvent, first_text, event_text}
use Rattle.crsm_mpspec.specs.World.{World, begin}
use Rattle.crsm_mpspec.specs.Possible.{possible}
use Rattle.crsm_mpspec.specs.Run.{ArePossible, last_world as world_at_end}
use Rattle.crsm_mpworld.specs.Doing.{act_of}

-- how many replicas there are, and what happens
pub record Schedule : Type 0 where
  pub replicas : ℕ
  pub events : List Event

-- how many lines it has
unfoldable pub line_count : Schedule → ℕ
line_count s = 1 + length s.events

-- a line and its end
abbrev pub ended : List ℕ → List ℕ
ended line = line ++ 10 ∷ []

-- the text of a schedule
unfoldable pub schedule_text : Schedule → List ℕ
schedule_text s = ended (first_text s.replicas) ++ flat_map (λ e. ended (event_text e)) s.events

-- the events, as acts of the world
unfoldable pub acts_of : Schedule → List Act
acts_of s = map act_of s.events

-- a line is the text of the event, which is possible here
pub record IsNext (w : World) (e : Event) : Type 0 where
  pub fits : FitsEvent e
  pub possible_here : possible w (act_of e) ≡ None

-- Lines are the text of the schedule, and each event is possible in the world of those before.
pub record IsSchedule (s : Schedule) : Type 0 where
  pub size : IsSize s.replicas
  pub fit : AllByRecursion FitsEvent s.events
  pub possible : ArePossible (begin s.replicas) (acts_of s)

-- the world at the end of a schedule
unfoldable pub last_world : Schedule → World
last_world s = world_at_end s.replicas (acts_of s)
