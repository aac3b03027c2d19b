use Rattle.crsm_cmd_replay.proofs.Happened.{begins}
use Rattle.crsm_cmd_replay.proofs.simulation.ClusterRunSimulation.begin.Goals as goal

pub returns : goal.returns
returns c =
    begins c.in_ok-world.world c.in_ok-world.lines c.args.replicas c.args.text.now c.push_lines.new.text (c.requires.some, c.requires.most) c.in_ok-world.ensures.world c.in_ok-world.ensures.lines
    c.in_ok-push_lines.ensures
