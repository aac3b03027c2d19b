use Rattle.std.proofs.Common.{refl, subst, Option}
use Rattle.crsm_spec.specs.World.{Site, log_of, cut_step}
use Rattle.crsm_spec.specs.Node.{turn}
use Rattle.crsm_sim_machine.specs.Arriving.{turn_of}
use Rattle.crsm_sim_machine.specs.declared.Step.{Step}
use Rattle.crsm_spec.specs.World.{down}
use Rattle.crsm_world.specs.Effects.{Leaves}
use Rattle.crsm_world.specs.declared.ending.Effects.TheVariants as effects
use Rattle.crsm_world.specs.Machines.{MachinesCut}
use Rattle.crsm_world.proofs.Letting.{none_spelt}
use Rattle.crsm_world.proofs.Leading.{leaves_cut, leaves_lost}
use Rattle.crsm_world.proofs.machines.Machines.step_stopped.Goals as goal

pub returns-in-Some-clause-leaves : goal.returns-in-Some-clause-leaves
returns-in-Some-clause-leaves c v r h e =
    let x = turn r (turn_of c.args.arrival, c.args.reading) in
    let cut = subst (λ (o : Option Step). MachinesCut c.args.stop.calls c.args.stop.fill v.n v.sites c.args.k r x o c.cut_at.new.self) c.in-Some.is (c.in_ok-step.ensures.stands v.n v.sites r h e) in
    let left : Leaves (cut_step 0 v c.args.k x) v (effects.Cut c.args.k c.in-Some.step 0 0) c.cut_at.new.self = (x, refl, cut.1, cut.2, none_spelt c.cut_at.new.self.port.sent 0) in
    leaves_cut c.args.stop.calls c.args.stop.fill v c.args.k x (effects.Cut c.args.k c.in-Some.step 0 0) c.cut_at.new.self cut.0 left

pub returns-in-None-clause-leaves : goal.returns-in-None-clause-leaves
unfolding log_of
returns-in-None-clause-leaves c v r h e =
    let x = turn r (turn_of c.args.arrival, c.args.reading) in
    let cut = subst (λ (o : Option Step). MachinesCut c.args.stop.calls c.args.stop.fill v.n v.sites c.args.k r x o c.cut_at.new.self) c.in-None.is (c.in_ok-step.ensures.stands v.n v.sites r h e) in
    let left : Leaves (down v c.args.k) v (effects.Down c.args.k) c.cut_at.new.self = (Site.Up r, refl, e, cut.1) in
    leaves_lost c.args.stop.calls c.args.stop.fill v c.args.k x (effects.Down c.args.k) c.cut_at.new.self cut.0 left
