use Rattle.std.proofs.Common.{◌≡◌, ◌∙◌, ap, length}
use Rattle.crsm_mpspec.specs.Log.{executed}
use Rattle.crsm_mpspec.specs.World.{Site as SiteOnPaper, log_of}
use Rattle.crsm_mpworld.specs.Sites.{IsIn}
use Rattle.crsm_mpworld.proofs.place.Site.executed_len.Goals as goal

pub returns : goal.returns
unfolding log_of
returns c me n s h = go s h.place
  where
    go : (s : SiteOnPaper) → IsIn c.args.self.now.is_up c.args.self.now.machine s → c.executed_len.result ≡ length (executed (log_of s))
    go (SiteOnPaper.Up r) place = c.executed_len.ensures r place.1
    go (SiteOnPaper.Down log) place = let left = place.1 in c.executed_len.ensures left.0 left.1 ∙ ap (λ l. length (executed l)) left.2
