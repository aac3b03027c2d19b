use Rattle.std.proofs.Common.{◌≡◌, ◌<◌, length, sym, subst, ℕ, Some}
use Rattle.std.specs.Prelude.{slice_get}
use Rattle.crsm_sim_generator.specs.View.{View, fresh_seen}
use Rattle.crsm_world.specs.Seen.{is_receiver}
use Rattle.crsm_world.specs.World.{WorldStands}
use Rattle.crsm_world.proofs.Looking.{fresh_count, fresh_nth}
use Rattle.crsm_world.proofs.look.WorldLook.nth_fresh.Goals as goal

pub returns : goal.returns
unfolding WorldStands
returns c view shown =
    let v = shown.cluster in
    subst (λ (u : View). c.args.j < length (fresh_seen c.args.up u) → slice_get (fresh_seen c.args.up u) c.args.j ≡ Some c.nth_of.result) (sym shown.is)
    (λ within. fresh_nth v c.args.up c.args.j c.nth_of.result
    (c.nth_of.ensures (is_receiver c.args.up v) (c.receivers.ensures v shown.stands) v.packets v.bytes shown.stands.holds.network (subst (λ (n : ℕ). c.args.j < n) (sym (fresh_count v c.args.up)) within)))
