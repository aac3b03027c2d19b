use Rattle.std.proofs.Common.{◌∙◌, sym, subst}
use Rattle.crsm_sim_machine.specs.Machine.{IsNotDown, IsNotUp}
use Rattle.crsm_world.proofs.Sites.{machine_got, machine_is, machine_missed, machine_none, up_got, up_missed}
use Rattle.crsm_world.proofs.machines.Machines.is_up.Goals as goal

pub returns-in-Some-clause-up : goal.returns-in-Some-clause-up
returns-in-Some-clause-up c n places h =
    let look = c.in-Some.ensures.lookup in
    let r = machine_got c.args.self.now n places c.args.k c.in-Some.machine.now _ h c.deref.ensures.value look.0 look.1 in
    c.is_up.ensures.up c.args.k n r.0 r.2 ∙ sym (up_got places c.args.k r.0 r.1)

pub returns-in-None-clause-up : goal.returns-in-None-clause-up
returns-in-None-clause-up c n places h = sym (up_missed places c.args.k (machine_missed c.args.self.now n places c.args.k _ h c.deref.ensures.value c.in-None.ensures.lookup.0))

pub returns-in-Some-clause-not_down : goal.returns-in-Some-clause-not_down
returns-in-Some-clause-not_down c up m at =
    let look = c.in-Some.ensures.lookup in
    subst (λ x. IsNotDown x) (machine_is _ c.args.self.now.items.items c.args.k c.in-Some.machine.now m c.deref.ensures.value look.0 look.1 at) (c.is_up.ensures.not_down up)

pub returns-in-Some-clause-not_up : goal.returns-in-Some-clause-not_up
returns-in-Some-clause-not_up c down m at =
    let look = c.in-Some.ensures.lookup in
    subst (λ x. IsNotUp x) (machine_is _ c.args.self.now.items.items c.args.k c.in-Some.machine.now m c.deref.ensures.value look.0 look.1 at) (c.is_up.ensures.not_up down)

pub returns-in-None-clause-not_up : goal.returns-in-None-clause-not_up
returns-in-None-clause-not_up c down m at = absurd (machine_none _ c.args.self.now.items.items c.args.k m c.deref.ensures.value c.in-None.ensures.lookup.0 at)
