use Rattle.std.proofs.Common.{◌≡◌, ◌∙◌, length, sym, subst, true}
use Rattle.crsm_sim_generator.specs.View.{View, used_to_up}
use Rattle.crsm_world.specs.Seen.{is_receiver}
use Rattle.crsm_world.specs.World.{WorldStands}
use Rattle.crsm_world.proofs.Looking.{used_count}
use Rattle.crsm_world.proofs.look.WorldLook.used.Goals as goal

pub returns : goal.returns
unfolding WorldStands
returns c view shown =
    let v = shown.cluster in
    subst (λ (u : View). c.count_of.result ≡ length (used_to_up u)) (sym shown.is)
    (c.count_of.ensures (is_receiver true v) (c.receivers.ensures v shown.stands) v.packets v.bytes shown.stands.holds.network ∙ used_count v)
