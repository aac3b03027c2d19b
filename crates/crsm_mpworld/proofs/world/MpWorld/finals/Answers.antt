use Rattle.crsm_mpspec.specs.World.{finals}
use Rattle.crsm_mpworld.specs.World.{MpWorldStands}
use Rattle.crsm_mpworld.proofs.world.MpWorld.finals.Goals as goal

pub returns-clause-lines : goal.returns-clause-lines
unfolding MpWorldStands finals
returns-clause-lines c v h = c.in_ok-lines.ensures v.n v.sites h.holds.sites
