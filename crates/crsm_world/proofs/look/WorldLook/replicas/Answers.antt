use Rattle.std.proofs.Common.{◌≡◌, ◌∙◌, length, sym, subst}
use Rattle.std.proofs.lemmas.List.{length-map}
use Rattle.crsm_sim_generator.specs.View.{View}
use Rattle.crsm_spec.specs.World.{is_up}
use Rattle.crsm_world.specs.Seen.{view_of}
use Rattle.crsm_world.specs.World.{WorldStands}
use Rattle.crsm_world.proofs.look.WorldLook.replicas.Goals as goal

pub returns : goal.returns
unfolding WorldStands view_of
returns c view shown =
    let v = shown.cluster in
    subst (λ (u : View). c.number.result ≡ length u.ups) (sym shown.is) (c.number.ensures v.n v.sites shown.stands.holds.sites ∙ sym (length-map v.sites is_up))
