use Rattle.std.proofs.Common.{◌≡◌, ◌<◌, length, sym, subst, true, ℕ, Some}
use Rattle.std.specs.Prelude.{slice_get}
use Rattle.crsm_sim_generator.specs.View.{View, used_to_up}
use Rattle.crsm_world.specs.Seen.{is_receiver}
use Rattle.crsm_world.specs.World.{WorldStands}
use Rattle.crsm_world.proofs.Looking.{used_count, used_nth}
use Rattle.crsm_world.proofs.look.WorldLook.nth_used.Goals as goal

pub returns : goal.returns
unfolding WorldStands
returns c view shown =
    let v = shown.cluster in
    subst (λ (u : View). c.args.j < length (used_to_up u) → slice_get (used_to_up u) c.args.j ≡ Some c.nth_of.result) (sym shown.is)
    (λ within. used_nth v c.args.j c.nth_of.result
    (c.nth_of.ensures (is_receiver true v) (c.receivers.ensures v shown.stands) v.packets v.bytes shown.stands.holds.network (subst (λ (n : ℕ). c.args.j < n) (sym (used_count v)) within)))
