use Rattle.crsm_spec.specs.World.{Site}
use Rattle.crsm_world.proofs.Sites.{cut_set, machine_here, site_at}
use Rattle.crsm_world.proofs.machines.Machines.cut_at.Goals as goal

pub returns-clause-stands : goal.returns-clause-stands
returns-clause-stands c n places r h e =
    let s = site_at c.args.self.now n places c.args.k c.index_mut.result.now (Site.Up r) h c.requires.within c.index_mut.ensures.value e in
    cut_set c.args.stop.calls c.args.stop.fill c.args.self.now n places c.args.k r _ c.in_ok-step.step c.cut_at.new.self h (c.in_ok-step.ensures.stands c.args.k n r s)

pub cut_at-requires-clause-up : goal.cut_at-requires-clause-up
cut_at-requires-clause-up c = c.requires.up c.index_mut.result.now (machine_here c.args.self.now.items.items c.args.k _ c.requires.within c.index_mut.ensures.value)
