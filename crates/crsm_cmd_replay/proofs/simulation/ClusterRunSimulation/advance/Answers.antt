use Rattle.std.proofs.Common.{refl, sym, ◌∙◌}
use Rattle.crsm_spec.specs.Moments.{act}
use Rattle.crsm_world.specs.Doing.{act_of}
use Rattle.crsm_world.specs.Schedule.{last_world}
use Rattle.crsm_cmd_replay.specs.Rules.{of_cluster}
use Rattle.crsm_cmd_replay.proofs.Happened.{happens, is_impossible}
use Rattle.crsm_cmd_replay.proofs.simulation.ClusterRunSimulation.advance.Goals as goal

pub returns-in-Some-clause-err : goal.returns-in-Some-clause-err
returns-in-Some-clause-err c = λ s good here.
    (is_impossible (last_world (of_cluster s)) c.args.event.now c.in-Err.bad c.in-Some.cause (c.in-Err.ensures.bad (last_world (of_cluster s)) here) (sym c.named_cause.ensures ∙ c.in-Some.is), refl)

pub returns-clause-ok : goal.returns-clause-ok
returns-clause-ok c = λ s number good here.
    let w = last_world (of_cluster s) in
    happens c.take_back.new.self c.in-Ok.lines s c.args.event.now c.args.at c.args.text.now c.push_lines.new.text c.requires number good (c.in-Ok.ensures.possible w here)
    (c.take_back.ensures.stands (act w (act_of c.args.event.now)).after (c.in-Ok.ensures.world w here)) (c.in-Ok.ensures.lines w here) c.in-Ok-push_lines.ensures
