use Rattle.std.proofs.Common.{◌∙◌, subst, ap, List, ℕ}
use Rattle.std.specs.Prelude.{filter}
use Rattle.crsm_mpspec.specs.Moments.{act, moments_of}
use Rattle.crsm_mpworld.specs.Packets.{is_fresh_for, is_up_among, numbers_of}
use Rattle.crsm_mpworld.specs.Effects.{each_gone}
use Rattle.crsm_mpworld.specs.World.{Leads}
use Rattle.crsm_mpworld.proofs.Due.{those_due}
use Rattle.crsm_mpworld.proofs.world.MpWorld.settle.Goals as goal

pub returns : goal.returns
unfolding act moments_of each_gone
returns c v h reading =
    let network = c.in_ok-due.ensures.stands v.packets v.bytes h.network in
    let ups = c.deref.ensures.value ∙ c.in_ok-ups.ensures v.n v.sites h.sites in
    let e = c.deref-2.ensures.value ∙ c.in_ok-due.ensures.due v.packets v.bytes h.network ∙ ap (λ us. filter (is_fresh_for (is_up_among us) v.packets) (numbers_of v.packets)) ups ∙ those_due v in
    let gone = subst (λ (is : List ℕ). Leads (each_gone reading is v) c.deliver_each.new.self c.in_ok-lines.lines) e (c.in_ok-lines.ensures v (record { n = h.n; sites = h.sites; network = network }) reading) in
    record { after = record { n = gone.after.n; sites = gone.after.sites; network = gone.after.network }; told = gone.told }
