-- The run of a plan over a world, and the text written of it.
use Rattle.std.specs.Prelude.{◌≡◌, ℕ, List, ◌++◌, map}
use Rattle.crsm_spec_plan.specs.declared.Plan.{Plan}
use Rattle.crsm_spec_plan.specs.Timelines.{Timed, IsTimeline, acts_of}
use Rattle.crsm_law_timing.specs.SoFar.{IsSoFar, world_after}
use Rattle.crsm_law_pending.specs.Agendas.{IsAgenda}
use Rattle.crsm_world.specs.Schedule.{IsSchedule, Schedule, schedule_text}
use Rattle.crsm_world.specs.Schedule as schedules
use Rattle.crsm_world.specs.World.{WorldStands}
use Rattle.crsm_delay.specs.Upcoming.{listed, timed_of}
use Rattle.crsm_delay.specs.declared.upcoming.Upcoming.{Upcoming}
use Rattle.crsm_delay.specs.declared.timeline.TimelineRun.{TimelineRun}

-- The world has done these events of the plan, and the agenda has those that are still to happen.
pub record Follows (plan : Plan) (done : List Upcoming) (run : TimelineRun) : Type 0 where
  pub so_far : IsSoFar plan (map timed_of done)
  pub agenda : IsAgenda plan (map timed_of done) (listed run.agenda)
  pub stands : WorldStands run.world (world_after plan (map timed_of done))

-- the plan is followed
pub record IsFollowed (plan : Plan) (run : TimelineRun) : Type 0 where
  pub done : List Upcoming
  pub follows : Follows plan done run

-- The text is that of a schedule that can be run, and its acts are those of a timeline of the plan.
pub record WritesTimeline (plan : Plan) (text : List ℕ) : Type 0 where
  pub events : List Timed
  pub timeline : IsTimeline plan events
  pub schedule : Schedule
  pub replicas : schedule.replicas ≡ plan.n
  pub acts : schedules.acts_of schedule ≡ acts_of events
  pub can_be_run : IsSchedule schedule
  pub text_is : text ≡ schedule_text schedule

-- such a text is added
pub record AddsTimeline (plan : Plan) (old new : List ℕ) : Type 0 where
  pub more : List ℕ
  pub added : new ≡ old ++ more
  pub writes : WritesTimeline plan more
