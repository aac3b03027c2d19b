use Rattle.std.proofs.Common.{◌≡◌, ◌<◌, ◌≤◌, ◌∙◌, ap, arith, subst, List, length, map, get_or, take_all}
use Rattle.crsm_mpspec.specs.World.{is_up}
use Rattle.crsm_mpworld.specs.declared.place.Site.{Site}
use Rattle.crsm_mpworld.proofs.Places.{sites_length, ups_next}
use Rattle.crsm_mpworld.proofs.sites.Sites.ups.Goals as goal

pub loop-site-preserved : goal.loop-site-preserved
loop-site-preserved c n places h =
    let ss = c.args.self.now.items.items in
    let i = c.loop-site.site-index in
    let items = c.deref-site-items.ensures.value in
    let l : i < length ss = let e = ap length items in let t = c.loop-site-test.true in omega arith in
    let is = subst (λ (xs : List Site). c.site-item.result ≡ get_or xs i c.site-item.result) items c.site-item.is in
    c.in_ok-push.ensures.items ∙ ups_next n ss places i c.site-item.result c.loop-site.ups.items c.is_up.result h l is (λ p s. c.is_up.ensures _ n p s) (c.loop-site.invariant n places h)

pub returns : goal.returns
returns c n places h =
    let i = c.loop-site.site-index in
    let l : length places ≤ i =
    let e = ap length c.deref-site-items.ensures.value in
    let m = sites_length n 0 c.args.self.now.items.items places h in
    let t = c.loop-site-test.false in omega arith in
    c.loop-site.invariant n places h ∙ ap (map is_up) (take_all i places l)
