use Rattle.std.proofs.Common.{◌≡◌}
use Rattle.crsm_mpspec.specs.World.{Site as SiteOnPaper, is_up}
use Rattle.crsm_mpworld.specs.Sites.{IsIn}
use Rattle.crsm_mpworld.proofs.place.Site.is_up.Goals as goal

pub returns : goal.returns
unfolding is_up
returns c me n s h = go s h.place
  where
    go : (s : SiteOnPaper) → IsIn c.args.self.now.is_up c.args.self.now.machine s → c.args.self.now.is_up ≡ is_up s
    go (SiteOnPaper.Up r) place = place.0
    go (SiteOnPaper.Down log) place = place.0
