use Rattle.std.proofs.Common.{◌∙◌}
use Rattle.crsm_mpworld.proofs.Places.{sites_length}
use Rattle.crsm_mpworld.proofs.sites.Sites.count.Goals as goal

pub returns : goal.returns
returns c n places h = c.len.ensures ∙ (c.args.self.now.items.ok.0 ∙ sites_length n 0 c.args.self.now.items.items places h)
