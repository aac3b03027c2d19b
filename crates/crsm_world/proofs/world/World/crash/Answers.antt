use Rattle.std.proofs.Common.{◌≡◌, ◌∙◌, ap, sym, Some, None}
use Rattle.std.specs.Prelude.{slice_get}
use Rattle.crsm_spec.specs.World.{Site, down}
use Rattle.crsm_world.proofs.Reasons.{up_is}
use Rattle.crsm_world.proofs.Sites.{up_some}
use Rattle.crsm_world.proofs.Turns.{up_found}
use Rattle.crsm_world.proofs.Leading.{leads_as, leads_on}
use Rattle.crsm_world.proofs.world.World.crash.Goals as goal

pub returns-in_default : goal.returns-in_default
returns-in_default c v h up =
    let e : Some c.args.replica ≡ None = up_some v.sites c.args.replica (sym (up_is v c.args.replica) ∙ up) ∙ sym (sym c.in_default.is ∙ c.up.ensures.up v.n v.sites h.sites) in cc

pub returns : goal.returns
returns c v h up =
    let u = up_found v.sites c.args.replica c.in-Some.k (sym c.in-Some.is ∙ c.up.ensures.up v.n v.sites h.sites) in
    leads_as _ _ _ _ (ap (down v) (sym u.number)) (leads_on _ _ _ _ c.new-lines.ensures (c.in_ok-leave.ensures _ v _ h.network c.sent.ensures (c.in_ok-effects.ensures.leaves v (Site.Up u.replica) h.sites (ap (slice_get v.sites) u.number ∙ u.up))))
