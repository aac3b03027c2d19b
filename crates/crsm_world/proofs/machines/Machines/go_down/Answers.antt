use Rattle.std.proofs.Common.{refl}
use Rattle.crsm_world.proofs.machines.Machines.go_down.Goals as goal

pub returns-clause-leaves : goal.returns-clause-leaves
returns-clause-leaves c v p h e = (p, refl, e, c.in_ok-crash.ensures.stands v.n v.sites p h e)
