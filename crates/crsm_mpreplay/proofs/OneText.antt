-- A text is that of one schedule.
use Rattle.std.proofs.Common.{ap}
use Rattle.crsm_sim_schedule.specs.Schedules as read
use Rattle.crsm_mpworld.specs.Schedule.{Schedule, schedule_text}
use Rattle.crsm_mpreplay.specs.Laws.{SchedulesAreOne}
use Rattle.crsm_mpreplay.specs.Rules.{of_leader}

read_as : Schedule → read.Schedule
read_as s = record { replicas = s.replicas; events = s.events }

pub as_one : read.SchedulesAreOne → SchedulesAreOne
unfolding schedule_text read.schedule_text read_as
as_one laws r s fits gits same =
    ap of_leader (laws (read_as r) (read_as s) (record { size = fits.size; fit = fits.fit }) (record { size = gits.size; fit = gits.fit }) same)
