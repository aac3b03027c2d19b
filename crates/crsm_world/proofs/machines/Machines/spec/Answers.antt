use Rattle.std.proofs.Common.{refl}
use Rattle.crsm_world.specs.Machines.{spec_in}
use Rattle.crsm_world.proofs.Sites.{machine_got, machine_missed}
use Rattle.crsm_world.proofs.machines.Machines.spec.Goals as goal

pub returns-in_ok-spec-in-Some : goal.returns-in_ok-spec-in-Some
unfolding spec_in
returns-in_ok-spec-in-Some c n places h =
    let look = c.in-Some.ensures.lookup in
    let r = machine_got c.args.self.now n places c.args.k c.in-Some.machine.now _ h c.deref.ensures.value look.0 look.1 in
    rw r.1 (c.in_ok-spec-in-Some.ensures c.args.k n r.0 r.2)

pub returns-in-None : goal.returns-in-None
unfolding spec_in
returns-in-None c n places h = let r = machine_missed c.args.self.now n places c.args.k _ h c.deref.ensures.value c.in-None.ensures.lookup.0 in rw r refl
