use Rattle.crsm_world.proofs.Leading.{leads_on}
use Rattle.crsm_world.proofs.world.World.do_single.Goals as goal

pub returns : goal.returns
returns c v h g = leads_on _ _ _ _ c.no_lines-lines.ensures.none (c.in_ok-add_single.ensures v (c.no_lines-lines.ensures.holds v h) g)
