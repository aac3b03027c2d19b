use Rattle.std.proofs.Common.{refl}
use Rattle.crsm_mpspec.specs.World.{Site as SiteOnPaper, log_of}
use Rattle.crsm_mpworld.specs.Sites.{IsDownWith, IsIn}
use Rattle.crsm_mpworld.proofs.place.Site.crash.Goals as goal

pub returns : goal.returns
unfolding log_of
returns c me n s h = record { me_is = h.me_is; n_is = h.n_is; place = (refl, go s h.place) }
  where
    go : (s : SiteOnPaper) → IsIn c.args.self.now.is_up c.args.self.now.machine s → IsDownWith c.args.self.now.machine (log_of s)
    go (SiteOnPaper.Up r) place = (r, place.1, refl)
    go (SiteOnPaper.Down log) place = place.1
