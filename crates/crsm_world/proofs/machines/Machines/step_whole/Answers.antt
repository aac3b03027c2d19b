use Rattle.std.proofs.Common.{refl}
use Rattle.crsm_spec.specs.Node.{turn}
use Rattle.crsm_sim_machine.specs.Arriving.{turn_of}
use Rattle.crsm_world.proofs.Letting.{spelt_one}
use Rattle.crsm_world.proofs.machines.Machines.step_whole.Goals as goal

pub returns-clause-leaves : goal.returns-clause-leaves
returns-clause-leaves c v r h e =
    let made = c.in_ok-step.ensures.stands v.n v.sites r h e in
    (turn r (turn_of c.args.arrival, c.args.reading), refl, made.0, made.1, spelt_one c.in_ok-step.step _ _ c.in_ok-step.first made.0 made.2)
