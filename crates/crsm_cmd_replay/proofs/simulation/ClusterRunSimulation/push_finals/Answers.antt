use Rattle.std.proofs.Common.{◌≡◌, ◌++◌, List, ℕ, OnOk, subst}
use Rattle.crsm_world.specs.Schedule.{last_world}
use Rattle.crsm_cmd_replay.specs.Rules.{of_cluster}
use Rattle.crsm_cmd_replay.proofs.Happened.{ends}
use Rattle.crsm_cmd_replay.proofs.simulation.ClusterRunSimulation.push_finals.Goals as goal

pub returns : goal.returns
returns c = λ s good here.
    subst (λ (t : List ℕ). OnOk c.push_lines.result (c.push_lines.new.text ≡ c.args.text.now ++ t)) (ends s c.in_ok-lines.lines (c.in_ok-lines.ensures.lines (last_world (of_cluster s)) here)) c.push_lines.ensures
