-- The view of a world from which its events are generated.
use Rattle.std.specs.Prelude.{◌≡◌, ℕ, Bool, true, false, map}
use Rattle.crsm_sim_generator.specs.View.{Mark, View}
use Rattle.crsm_spec.specs.World.{Packet, World as Cluster, is_up, is_up_at}
use Rattle.crsm_world.specs.declared.world.World.{World}
use Rattle.crsm_world.specs.World.{WorldStands}

unfoldable pub mark_of : Packet → Mark
mark_of p = record { to = p.to; used = p.used }

unfoldable pub view_of : Cluster → View
view_of v = record { ups = map is_up v.sites; marks = map mark_of v.packets }

-- the view of the world in memory is that of the world of the definitions that it stands for
pub record IsSeenAs (w : World) (view : View) : Type 0 where
  pub cluster : Cluster
  pub stands : WorldStands w cluster
  pub is : view ≡ view_of cluster

-- any receiver, or one that is up
abbrev pub is_receiver : (up : Bool) → Cluster → ℕ → Bool
is_receiver true v k = is_up_at v k
is_receiver false v k = true
