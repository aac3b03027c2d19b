use Rattle.std.proofs.Common.{◌∙◌, ap, subst, sym}
use Rattle.std.specs.Prelude.{slice_get}
use Rattle.crsm_mpspec.specs.World.{Site, down, is_up_at}
use Rattle.crsm_mpworld.specs.Packets.{IsOpen}
use Rattle.crsm_mpworld.proofs.Turns.{up_found, up_here}
use Rattle.crsm_mpworld.proofs.Leading.{leads_as, leads_on, on_count}
use Rattle.crsm_mpworld.proofs.world.MpWorld.crash.Goals as goal

pub returns-in_default : goal.returns-in_default
unfolding is_up_at
returns-in_default c v h up =
    let held = c.no_lines-lines.ensures.holds v h in
    absurd (up_here v.sites c.args.replica up (sym c.in_default.is ∙ c.up.ensures.up v.n v.sites held.sites))

pub returns : goal.returns
returns c v h up =
    let held = c.no_lines-lines.ensures.holds v h in
    let u = up_found v.sites c.args.replica c.in-Some.k (sym c.in-Some.is ∙ c.up.ensures.up v.n v.sites held.sites) in
    leads_as _ _ _ _ (ap (down v) (sym u.number)) (leads_on _ _ _ _ c.no_lines-lines.ensures.none (on_count _ _ v.n _ _ _ _ held.n
    (c.in_ok-leave.ensures _ v _ held.network (c.go_down-effects.ensures.leaves v held.sites (Site.Up u.replica) _ (ap (slice_get v.sites) u.number ∙ u.up)))))

pub leave-requires-clause-room : goal.leave-requires-clause-room
leave-requires-clause-room c = subst IsOpen (sym c.no_lines-lines.ensures.network) c.requires
