-- Schedules and their text.
use Rattle.std.specs.Prelude.{◌≡◌, ℕ, ◌+◌, List, [], ◌∷◌, ◌++◌, length}
use Rattle.std.specs.List.{AllByRecursion, flat_map}
use Rattle.crsm_schedule.specs.declared.Event.{Event}
use Rattle.crsm_schedule.specs.Grammar.{IsSize, FitsEvent, first_text, event_text}

-- how many replicas there are at first, and what happens
pub record Schedule : Type 0 where
  pub replicas : ℕ
  pub events : List Event

-- nothing has happened yet
abbrev pub no_events : ℕ → Schedule
no_events n = record { replicas = n; events = [] }

-- the schedule with one more event
abbrev pub with_event : Schedule → Event → Schedule
with_event s e = record { replicas = s.replicas; events = s.events ++ e ∷ [] }

-- how many lines it has
unfoldable pub line_count : Schedule → ℕ
line_count s = 1 + length s.events

-- a line and its end
abbrev pub ended : List ℕ → List ℕ
ended line = line ++ 10 ∷ []

-- the text of a schedule
unfoldable pub schedule_text : Schedule → List ℕ
schedule_text s = ended (first_text s.replicas) ++ flat_map (λ e. ended (event_text e)) s.events

-- it can be written, whether or not it can be run
pub record FitsSchedule (s : Schedule) : Type 0 where
  pub size : IsSize s.replicas
  pub fit : AllByRecursion FitsEvent s.events

-- two schedules with one text are one: their sizes are equal, and their events
abbrev pub SchedulesAreOne : Type 0
SchedulesAreOne = (r s : Schedule) → FitsSchedule r → FitsSchedule s → schedule_text r ≡ schedule_text s → r ≡ s
