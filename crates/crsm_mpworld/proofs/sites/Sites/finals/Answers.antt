use Rattle.std.proofs.Common.{◌≡◌, ◌<◌, ◌∙◌, ap, subst, arith, List, length, get_or}
use Rattle.crsm_mpworld.specs.declared.place.Site.{Site}
use Rattle.crsm_mpworld.proofs.Places.{finals_next, finals_done}
use Rattle.crsm_mpworld.proofs.sites.Sites.finals.Goals as goal

pub loop-k-preserved : goal.loop-k-preserved
loop-k-preserved c n places h =
    let ss = c.args.self.now.items.items in
    let i = c.loop-k.k in
    let items = c.deref-site-items.ensures.value in
    let l : i < length ss = let e = ap length items in let t = c.loop-k-test.true in omega arith in
    let is = subst (λ (xs : List Site). c.site-item.result ≡ get_or xs i c.site-item.result) items c.site-item.is in
    c.in_ok-push.ensures.ok ∙ finals_next n ss places i c.site-item.result c.loop-k.lines c.final_line.result h l is
    (λ p s. c.final_line.ensures i n p s)
    (c.loop-k.invariant n places h)

pub returns : goal.returns
returns c n places h =
    c.loop-k.invariant n places h
    ∙ finals_done n c.args.self.now.items.items places c.loop-k.k h (let e = ap length c.deref-site-items.ensures.value in let t = c.loop-k-test.false in omega arith)
