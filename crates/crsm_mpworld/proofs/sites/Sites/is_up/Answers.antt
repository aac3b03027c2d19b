use Rattle.std.proofs.Common.{◌∙◌, sym}
use Rattle.crsm_mpworld.proofs.Places.{looked_up, site_got, site_missed, up_got, up_missed}
use Rattle.crsm_mpworld.proofs.sites.Sites.is_up.Goals as goal

pub returns-in-Some-clause-up : goal.returns-in-Some-clause-up
returns-in-Some-clause-up c n places h =
    let look = c.in-Some.ensures.lookup in
    let r = site_got n c.args.self.now.items.items places c.args.k c.in-Some.site.now _ h c.deref.ensures.value look.0 look.1 in
    c.is_up.ensures c.args.k n r.0 r.2 ∙ sym (up_got places c.args.k r.0 r.1)

pub returns-in-None-clause-up : goal.returns-in-None-clause-up
returns-in-None-clause-up c n places h =
    sym (up_missed places c.args.k (site_missed n c.args.self.now.items.items places c.args.k _ h c.deref.ensures.value c.in-None.ensures.lookup.0))

pub returns-in-Some-clause-there : goal.returns-in-Some-clause-there
returns-in-Some-clause-there c up = looked_up c.args.self.now.items.items _ c.args.k c.deref.ensures.value c.in-Some.ensures.lookup.0
