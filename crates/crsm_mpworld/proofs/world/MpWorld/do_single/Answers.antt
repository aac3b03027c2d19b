use Rattle.crsm_mpworld.proofs.Leading.{leads_on}
use Rattle.crsm_mpworld.proofs.world.MpWorld.do_single.Goals as goal

pub returns : goal.returns
returns c v h = leads_on _ _ _ _ c.no_lines-lines.ensures.none (c.in_ok-add_single.ensures v (c.no_lines-lines.ensures.holds v h))
