use Rattle.std.proofs.Common.{◌≡◌, ◌∙◌, ap, sym, subst, Some}
use Rattle.std.specs.Prelude.{slice_get}
use Rattle.std.proofs.lemmas.Option.{IfSome_then}
use Rattle.crsm_spec.specs.World.{Site}
use Rattle.crsm_sim_machine.specs.Machine.{MachineStands}
use Rattle.crsm_world.specs.Machines.{is_up_in}
use Rattle.crsm_world.specs.World.{WorldStands}
use Rattle.crsm_world.proofs.Reasons.{up_is}
use Rattle.crsm_world.proofs.Sites.{up_got, up_missed}
use Rattle.crsm_world.proofs.world.World.shell.Goals as goal

pub returns-in-Some-clause-up : goal.returns-in-Some-clause-up
unfolding WorldStands
returns-in-Some-clause-up c v h =
    let r = c.in-Some.ensures v.n v.sites h.holds.sites in
    c.shell.ensures.up c.from.result v.n r.0 r.2 ∙ sym (up_got v.sites c.from.result r.0 r.1) ∙ ap (is_up_in v.sites) c.from.ensures ∙ sym (up_is v c.args.replica)

pub returns-in-Some-clause-stands : goal.returns-in-Some-clause-stands
unfolding WorldStands
returns-in-Some-clause-stands c =
    IfSome_then c.shell.result c.shell.ensures.stands (λ shell f v q h e.
    let r = c.in-Some.ensures v.n v.sites h.holds.sites in
    let here : Some (Site.Up q) ≡ Some r.0 = sym e ∙ (ap (slice_get v.sites) (sym c.from.ensures) ∙ r.1) in
    let same : r.0 ≡ Site.Up q = cc in
    f c.from.result v.n q (subst (λ (p : Site). MachineStands c.in-Some.machine.now c.from.result v.n p) same r.2))

pub returns-in-None-clause-up : goal.returns-in-None-clause-up
unfolding WorldStands
returns-in-None-clause-up c v h =
    sym (up_missed v.sites c.from.result (c.in-None.ensures v.n v.sites h.holds.sites)) ∙ ap (is_up_in v.sites) c.from.ensures ∙ sym (up_is v c.args.replica)
