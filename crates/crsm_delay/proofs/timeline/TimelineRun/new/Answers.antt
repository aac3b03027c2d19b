use Rattle.std.proofs.Common.{refl}
use Rattle.crsm_spec.specs.World.{begin}
use Rattle.crsm_delay.proofs.Runs.{follows_first}
use Rattle.crsm_delay.proofs.timeline.TimelineRun.new.Goals as goal

pub returns : goal.returns
returns c = follows_first c.args.plan.now (record { alloc = c.args.alloc; world = c.take_back.new.self; agenda = c.in_ok-agenda.agenda }) c.args.plan.now.n refl
    (c.take_back.ensures.stands (begin c.args.plan.now.n) c.in_ok-world.ensures.world) c.in_ok-agenda.ensures
