use Rattle.std.proofs.Common.{refl}
use Rattle.crsm_mpworld.proofs.sites.Sites.go_down.Goals as goal

pub returns-clause-leaves : goal.returns-clause-leaves
returns-clause-leaves c v h p step e = (p, refl, e, c.crash.ensures v.n v.sites p h e)
