use Rattle.crsm_mpworld.proofs.Leading.{on_count}
use Rattle.crsm_mpworld.proofs.world.MpWorld.arrive.Goals as goal

pub returns : goal.returns
returns c v h = on_count _ _ v.n _ _ _ _ h.n (c.in_ok-leave.ensures _ v _ h.network (c.in_ok-effects.ensures.leaves v h.sites))
