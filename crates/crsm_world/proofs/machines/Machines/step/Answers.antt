use Rattle.crsm_spec.specs.World.{Site}
use Rattle.crsm_world.proofs.Sites.{machine_here, machine_set, site_at, with_port}
use Rattle.crsm_world.proofs.machines.Machines.step.Goals as goal

pub returns-clause-stands : goal.returns-clause-stands
returns-clause-stands c n places r h e =
    let s = site_at c.args.self.now n places c.args.k c.index_mut.result.now (Site.Up r) h c.requires.within c.index_mut.ensures.value e in
    let made = c.in_ok-made.ensures.stands c.args.k n r s in
    let sent = c.in_ok-made.ensures.sent h.well c.args.k n r s in
    (made.0, with_port _ n _ c.step.new.port (machine_set c.args.self.now n places c.args.k _ _ h made.1) sent.well, sent)

pub step-requires : goal.step-requires
step-requires c = c.requires.up c.index_mut.result.now (machine_here c.args.self.now.items.items c.args.k _ c.requires.within c.index_mut.ensures.value)
