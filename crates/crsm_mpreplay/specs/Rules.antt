-- What a store with a leader makes of a schedule that is read.
use Rattle.std.specs.Prelude.{◌≡◌, Some}
use Rattle.crsm_schedule.specs.declared.Event.{Event}
use Rattle.crsm_sim_schedule.specs.Rules.{Rules}
use Rattle.crsm_sim_schedule.specs.Schedules as read
use Rattle.crsm_sim_schedule.specs.declared.Cause.{Cause as Told}
use Rattle.crsm_mpspec.specs.Possible.{Cause, possible}
use Rattle.crsm_mpspec.specs.World.{World}
use Rattle.crsm_mpworld.specs.declared.MpWorld.{MpWorld}
use Rattle.crsm_mpworld.specs.Doing.{act_of}
use Rattle.crsm_mpworld.specs.Schedule.{Schedule, IsSchedule, last_world}
use Rattle.crsm_mpworld.specs.World.{MpWorldStands}
use Rattle.crsm_mpreplay.specs.Causes.{cause_told}
use Rattle.crsm_mpreplay.specs.Transcript.{transcript, finals_text}

-- the same schedule, as one of the store with a leader
abbrev pub of_leader : read.Schedule → Schedule
of_leader s = record { replicas = s.replicas; events = s.events }

-- the event is not possible in the world, for the first cause that the world names
pub record IsImpossible (w : World) (e : Event) (cause : Told) : Type 0 where
  pub why : Cause
  pub is : possible w (act_of e) ≡ Some why
  pub named : cause_told why ≡ cause

abbrev pub leader_rules : Rules
leader_rules = record {
  can_run = λ s. IsSchedule (of_leader s);
  refuses = λ s e cause. IsImpossible (last_world (of_leader s)) e cause;
  transcript = λ s. transcript (of_leader s);
  finals = λ s. finals_text (of_leader s);
}

-- the world in memory is the one that the schedule leads to
abbrev pub LeadsTo : MpWorld → read.Schedule → Type 0
LeadsTo held s = MpWorldStands held (last_world (of_leader s))
