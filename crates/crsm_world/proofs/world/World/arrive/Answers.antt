use Rattle.crsm_world.proofs.world.World.arrive.Goals as goal

pub returns : goal.returns
returns c v h = c.in_ok-leave.ensures _ v _ h.network c.sent.ensures (c.in_ok-effects.ensures.leaves v h.sites)
