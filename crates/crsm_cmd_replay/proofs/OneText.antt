-- A text is that of one schedule of a cluster.
use Rattle.std.proofs.Common.{◌≡◌, ap}
use Rattle.crsm_sim_schedule.specs.Schedules as read
use Rattle.crsm_world.specs.Schedule.{Schedule, schedule_text}
use Rattle.crsm_cmd_replay.specs.Laws.{SchedulesAreOne}
use Rattle.crsm_cmd_replay.specs.Rules.{of_cluster}

read_as : Schedule → read.Schedule
read_as s = record { replicas = s.replicas; events = s.events }

pub as_one : read.SchedulesAreOne → SchedulesAreOne
unfolding schedule_text read.schedule_text read_as
as_one laws r s fits gits same =
    ap of_cluster (laws (read_as r) (read_as s) (record { size = fits.size; fit = fits.fit }) (record { size = gits.size; fit = gits.fit }) same)
