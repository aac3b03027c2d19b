-- Events that are still to happen, as a timeline and as a schedule have them.
use Rattle.std.specs.Prelude.{◌≡◌, ℕ, ◌+◌, ◌<◌, List, [], ◌∷◌, map}
use Rattle.crsm_schedule.specs.declared.Event.{Event}
use Rattle.crsm_schedule.specs.declared.Single.{Single as Spelt}
use Rattle.crsm_spec.specs.Acts.{Single}
use Rattle.crsm_spec_plan.specs.declared.Plan.{Plan}
use Rattle.crsm_spec_plan.specs.Plans.{arrival, reading, stamped}
use Rattle.crsm_spec_plan.specs.Timelines.{Timed, Precedes, the_command, tick}
use Rattle.crsm_law_pending.specs.Posts.{Post}
use Rattle.crsm_delay.specs.declared.upcoming.UpcomingKind.{UpcomingKind}
use Rattle.crsm_delay.specs.declared.upcoming.Upcoming.{Upcoming}
use Rattle.crsm_delay.specs.declared.agenda.Agenda.{Agenda}
use Rattle.crsm_delay.specs.declared.agenda.Post.{Post as Told}

-- the step of the event
abbrev pub does_of : UpcomingKind → Single
does_of (UpcomingKind.Request replica reading) = Single.Request replica reading the_command
does_of (UpcomingKind.Tick replica reading) = Single.Tick replica reading
does_of (UpcomingKind.Go number reading) = Single.Go number reading

-- the event of a timeline
abbrev pub timed_of : Upcoming → Timed
timed_of u = record { moment = u.moment; does = does_of u.kind }

-- the same in a schedule
abbrev pub spelt_of : UpcomingKind → Spelt
spelt_of (UpcomingKind.Request replica reading) = Spelt.Request replica reading the_command
spelt_of (UpcomingKind.Tick replica reading) = Spelt.Tick replica reading
spelt_of (UpcomingKind.Go number reading) = Spelt.Go number reading

abbrev pub event_of : Upcoming → Event
event_of u = Event.One (spelt_of u.kind)

-- the events still to happen
abbrev pub listed : Agenda → List Timed
listed a = map timed_of a.events.items

-- the event happens before all of a list in order
abbrev pub IsAheadOf : Upcoming → List Upcoming → Type 0
IsAheadOf u [] = Unit {0}
IsAheadOf u (g ∷ gs) = Precedes (timed_of u) (timed_of g)

-- the datagram whose sending is reported
abbrev pub on_paper : Told → Post
on_paper p = record { number = p.number; from = p.from; to = p.to }

-- the tick of k, when its clock reads one more than the timestamp, which it did not when the command came
pub record IsTick (plan : Plan) (k : ℕ) (u : Upcoming) : Type 0 where
  pub is : timed_of u ≡ tick plan k u.moment
  pub reads : reading plan k u.moment ≡ stamped plan + 1
  pub late : arrival plan k < u.moment
