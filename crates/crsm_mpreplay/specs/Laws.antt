-- The statements of the laws about the text of a schedule, and about a schedule that was run.
use Rattle.std.specs.Prelude.{◌≡◌, Option, None, Some}
use Rattle.std.specs.List.{AllByRecursion}
use Rattle.crsm_schedule.specs.Grammar.{IsSize, FitsEvent}
use Rattle.crsm_mpspec.specs.Safe.{Agreed, Answered, RealTime}
use Rattle.crsm_mpworld.specs.Schedule.{Schedule, acts_of, schedule_text}
use Rattle.crsm_sim_schedule.specs.Schedules as read
use Rattle.crsm_mpreplay.specs.Rules.{of_leader}
use Rattle.crsm_mpreplay.specs.Transcript.{ShowsAll}

-- it can be written, whether or not it can be run
pub record FitsSchedule (s : Schedule) : Type 0 where
  pub size : IsSize s.replicas
  pub fit : AllByRecursion FitsEvent s.events

-- two schedules with one text are one: their sizes are equal, and their events
abbrev pub SchedulesAreOne : Type 0
SchedulesAreOne = (r s : Schedule) → FitsSchedule r → FitsSchedule s → schedule_text r ≡ schedule_text s → r ≡ s

-- Its transcript has all lines of the run of its acts. In that run executed lists agree, answers are the store's, and
-- real time is kept.
pub record IsLawful (s : Schedule) : Type 0 where
  pub shows : ShowsAll s
  pub agreement : Agreed s.replicas (acts_of s)
  pub answers : Answered s.replicas (acts_of s)
  pub real_time : RealTime s.replicas (acts_of s)

-- the same of what has been read
abbrev pub AreLawful : Option read.Schedule → Type 0
AreLawful None = Unit {0}
AreLawful (Some s) = IsLawful (of_leader s)
