-- The statements of the laws about the text of a schedule.
use Rattle.std.specs.Prelude.{◌≡◌}
use Rattle.std.specs.List.{AllByRecursion}
use Rattle.crsm_schedule.specs.Grammar.{IsSize, FitsEvent}
use Rattle.crsm_world.specs.Schedule.{Schedule, schedule_text}

-- it can be written, whether or not it can be run
pub record FitsSchedule (s : Schedule) : Type 0 where
  pub size : IsSize s.replicas
  pub fit : AllByRecursion FitsEvent s.events

-- two schedules with one text are one: their sizes are equal, and their events
abbrev pub SchedulesAreOne : Type 0
SchedulesAreOne = (r s : Schedule) → FitsSchedule r → FitsSchedule s → schedule_text r ≡ schedule_text s → r ≡ s
