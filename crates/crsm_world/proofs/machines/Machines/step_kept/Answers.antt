use Rattle.std.proofs.Common.{refl, subst, sym, take, List}
use Rattle.crsm_spec.specs.World.{Site, log_of}
use Rattle.crsm_spec.specs.Node.{turn}
use Rattle.crsm_sim_machine.specs.Arriving.{turn_of}
use Rattle.crsm_sim_network.specs.Packets.{AreSpelt}
use Rattle.crsm_port.specs.Memory.{Memory}
use Rattle.crsm_world.specs.Machines.{MachinesStand}
use Rattle.crsm_world.proofs.Letting.{spelt_first, spelt_one}
use Rattle.crsm_world.proofs.Turns.{set_twice, get_set}
use Rattle.crsm_world.proofs.machines.Machines.step_kept.Goals as goal

pub returns-clause-leaves : goal.returns-clause-leaves
unfolding log_of
returns-clause-leaves c v r h e =
    let x = turn r (turn_of c.args.arrival, c.args.reading) in
    let made = c.in_ok-step.ensures.stands v.n v.sites r h e in
    let down = c.in_ok-crash.ensures.stands v.n _ (Site.Up x.replica) made.1 (get_set v.sites c.args.k (Site.Up x.replica) (Site.Up r) e) in
    let sites = subst (λ (ps : List Site). MachinesStand c.crash.new.self v.n ps) (set_twice v.sites c.args.k (Site.Up x.replica) (Site.Down x.replica.log)) down in
    let spelt = spelt_first c.args.sends _ _ c.in_ok-step.first (spelt_one c.in_ok-step.step x _ c.in_ok-step.first made.0 made.2) in
    (x, refl, made.0, sites, subst (λ (port : Memory). AreSpelt (take c.args.sends c.in_ok-step.step.batch.sends) port.sent c.in_ok-step.first) (sym c.crash.ensures.port) spelt)
