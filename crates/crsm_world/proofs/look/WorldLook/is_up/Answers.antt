use Rattle.std.proofs.Common.{◌≡◌, ◌∙◌, ap, sym, subst}
use Rattle.crsm_sim_generator.specs.View.{View, is_up_in as is_seen_up}
use Rattle.crsm_world.specs.Machines.{is_up_in}
use Rattle.crsm_world.specs.World.{WorldStands}
use Rattle.crsm_world.proofs.Looking.{seen_up_in}
use Rattle.crsm_world.proofs.look.WorldLook.is_up.Goals as goal

pub returns : goal.returns
unfolding WorldStands
returns c view shown =
    let v = shown.cluster in
    subst (λ (u : View). c.is_up.result ≡ is_seen_up u c.args.replica) (sym shown.is)
    (c.is_up.ensures.up v.n v.sites shown.stands.holds.sites ∙ ap (is_up_in v.sites) c.from.ensures ∙ seen_up_in v c.args.replica)
