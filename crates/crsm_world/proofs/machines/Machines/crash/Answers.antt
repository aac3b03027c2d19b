use Rattle.crsm_world.proofs.Sites.{site_at, machine_set}
use Rattle.crsm_world.proofs.machines.Machines.crash.Goals as goal

pub returns-clause-stands : goal.returns-clause-stands
returns-clause-stands c n places p h e =
    let s = site_at c.args.self.now n places c.args.k c.index_mut.result.now p h c.requires c.index_mut.ensures.value e in
    machine_set c.args.self.now n places c.args.k _ _ h (c.in_ok-crash.ensures c.args.k n p s)
