use Rattle.crsm_mpworld.proofs.Places.{site_at, site_set}
use Rattle.crsm_mpworld.proofs.sites.Sites.crash.Goals as goal

pub returns : goal.returns
returns c n places p h e =
    let ss = c.args.self.now.items.items in
    let s = site_at n ss places c.args.k c.index_mut.result.now p h c.requires c.index_mut.ensures.value e in
    site_set n ss places c.args.k _ _ h (c.crash.ensures c.args.k n p s)
