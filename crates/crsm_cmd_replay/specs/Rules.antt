-- What a cluster makes of a schedule that is read.
use Rattle.std.specs.Prelude.{◌≡◌, Some}
use Rattle.crsm_schedule.specs.declared.Event.{Event}
use Rattle.crsm_sim_schedule.specs.Rules.{Rules}
use Rattle.crsm_sim_schedule.specs.Schedules as read
use Rattle.crsm_sim_schedule.specs.declared.Cause.{Cause}
use Rattle.crsm_spec.specs.Acts.{Bad}
use Rattle.crsm_spec.specs.Possible.{possible}
use Rattle.crsm_spec.specs.World.{World}
use Rattle.crsm_world.specs.declared.World.{World as Held}
use Rattle.crsm_world.specs.Doing.{act_of}
use Rattle.crsm_world.specs.Schedule.{Schedule, IsSchedule, last_world, transcript, finals_text}
use Rattle.crsm_world.specs.World.{WorldStands}
use Rattle.crsm_cmd_replay.specs.Causes.{cause_of}

-- the same schedule, as one of the cluster
abbrev pub of_cluster : read.Schedule → Schedule
of_cluster s = record { replicas = s.replicas; events = s.events }

-- the event is not possible in the world, for the first cause that the world names
pub record IsImpossible (w : World) (e : Event) (cause : Cause) : Type 0 where
  pub bad : Bad
  pub is : possible w (act_of e) ≡ Some bad
  pub named : cause_of bad ≡ cause

abbrev pub cluster_rules : Rules
cluster_rules = record {
  can_run = λ s. IsSchedule (of_cluster s);
  refuses = λ s e cause. IsImpossible (last_world (of_cluster s)) e cause;
  transcript = λ s. transcript (of_cluster s);
  finals = λ s. finals_text (of_cluster s);
}

-- the world in memory is the one that the schedule leads to
abbrev pub LeadsTo : Held → read.Schedule → Type 0
LeadsTo held s = WorldStands held (last_world (of_cluster s))
