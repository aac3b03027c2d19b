use Rattle.std.proofs.Common.{◌≡◌, ◌∙◌, length, sym, subst}
use Rattle.crsm_sim_generator.specs.View.{View, fresh_seen}
use Rattle.crsm_world.specs.Seen.{is_receiver}
use Rattle.crsm_world.specs.World.{WorldStands}
use Rattle.crsm_world.proofs.Looking.{fresh_count}
use Rattle.crsm_world.proofs.look.WorldLook.fresh.Goals as goal

pub returns : goal.returns
unfolding WorldStands
returns c view shown =
    let v = shown.cluster in
    subst (λ (u : View). c.count_of.result ≡ length (fresh_seen c.args.up u)) (sym shown.is)
    (c.count_of.ensures (is_receiver c.args.up v) (c.receivers.ensures v shown.stands) v.packets v.bytes shown.stands.holds.network ∙ fresh_count v c.args.up)
