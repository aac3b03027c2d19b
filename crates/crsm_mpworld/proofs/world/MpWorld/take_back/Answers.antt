use Rattle.crsm_mpworld.specs.World.{MpWorldStands}
use Rattle.crsm_mpworld.proofs.world.MpWorld.take_back.Goals as goal

pub returns-clause-stands : goal.returns-clause-stands
unfolding MpWorldStands
returns-clause-stands c v h = record { unspent = h.unspent; holds = record { n = h.holds.n; sites = h.holds.sites; network = h.holds.network } }
