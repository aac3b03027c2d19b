use Rattle.crsm_mpspec.specs.World.{Site as Place}
use Rattle.crsm_mpworld.proofs.Places.{site_at, site_set}
use Rattle.crsm_mpworld.proofs.sites.Sites.step.Goals as goal

pub returns-clause-steps : goal.returns-clause-steps
returns-clause-steps c n places r h e =
    let ss = c.args.self.now.items.items in
    let s = site_at n ss places c.args.k c.index_mut.result.now (Place.Up r) h c.requires.there c.index_mut.ensures.value e in
    let made = c.in_ok-step.ensures.steps c.args.k n r s in
    (made.0, site_set n ss places c.args.k _ _ h made.1)
