use Rattle.crsm_mpspec.specs.World.{Site as Place}
use Rattle.crsm_mpworld.proofs.Places.{site_at, site_set}
use Rattle.crsm_mpworld.proofs.sites.Sites.start.Goals as goal

pub returns : goal.returns
returns c n places log h e =
    let ss = c.args.self.now.items.items in
    let s = site_at n ss places c.args.k c.index_mut.result.now (Place.Down log) h c.requires c.index_mut.ensures.value e in
    let made = c.in_ok-boot.ensures c.args.k n log s in
    (made.0, site_set n ss places c.args.k _ _ h made.1)
