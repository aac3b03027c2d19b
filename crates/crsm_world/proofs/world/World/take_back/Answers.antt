use Rattle.crsm_world.specs.World.{WorldStands}
use Rattle.crsm_world.proofs.world.World.take_back.Goals as goal

pub returns-clause-stands : goal.returns-clause-stands
unfolding WorldStands
returns-clause-stands c v h = record { unspent = h.unspent; holds = record { sites = h.holds.sites; network = h.holds.network } }
