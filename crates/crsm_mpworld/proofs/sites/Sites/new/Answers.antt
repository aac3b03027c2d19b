use Rattle.std.proofs.Common.{◌+◌, ◌∙◌, List, [], replicate, arith, subst, sym}
use Rattle.std.proofs.lemmas.List.{length-replicate}
use Rattle.crsm_mpspec.specs.World.{Site as Place}
use Rattle.crsm_mpworld.specs.declared.place.Site.{Site}
use Rattle.crsm_mpworld.specs.Sites.{SitesStand}
use Rattle.crsm_mpworld.proofs.Places.{sites_length, site_next}
use Rattle.crsm_mpworld.proofs.sites.Sites.new.Goals as goal

pub loop-me-preserved : goal.loop-me-preserved
loop-me-preserved c =
    let me = c.loop-me.me in
    let ss = c.loop-me.items.items in
    let stand = c.loop-me.invariant in
    let stands = site_next c.args.n ss me c.in_ok-new.field-0 (Place.Down []) (sites_length c.args.n 0 ss _ stand ∙ length-replicate me (Place.Down [])) stand c.in_ok-new.ensures in
    subst (λ (xs : List Site). SitesStand c.args.n 0 xs (replicate (me + 1) (Place.Down []))) (sym c.in_ok-push.ensures.items) stands

pub invariant_of-result : goal.invariant_of-result
invariant_of-result c =
    let me = c.loop-me.me in
    let long = sites_length c.args.n 0 c.loop-me.items.items _ c.loop-me.invariant in
    let most = length-replicate me (Place.Down []) in
    let end = c.loop-me.auto.me-end in
    let few = c.requires in record { few = omega (arith, long, most, end, few) }
