use Rattle.std.proofs.Common.{[], replicate}
use Rattle.crsm_mpspec.specs.World.{Site as Place}
use Rattle.crsm_mpworld.specs.Sites.{SitesStand}
use Rattle.crsm_mpworld.proofs.sites.Sites.new.Given as goal

abbrev pub invariant-loop-me : goal.invariant-loop-me
invariant-loop-me l = SitesStand l.n 0 l.items.items (replicate l.me (Place.Down []))
