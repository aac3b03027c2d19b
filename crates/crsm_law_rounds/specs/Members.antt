-- Members of an epoch that are up.
use Rattle.std.specs.Prelude.{◌≡◌, ℕ, IsTrue, List, Some, slice_get}
use Rattle.crsm_spec.specs.Lists.{Among}
use Rattle.crsm_spec.specs.Log.{known, active}
use Rattle.crsm_spec.specs.Replica.{Replica, members_of}
use Rattle.crsm_spec.specs.World.{Site, World}
use Rattle.crsm_law_steps.specs.Happenings.{IsReached}
use Rattle.crsm_law_epoch.specs.LogWorlds.{HasFewBoots}

-- replica k is up as r, active in epoch e, which has these members
pub record IsMemberUp (e : ℕ) (members : List ℕ) (w : World) (k : ℕ) (r : Replica) : Type 0 where
  pub up : slice_get w.sites k ≡ Some (Site.Up r)
  pub knows : known r.log ≡ e
  pub runs : IsTrue (active r.log)
  pub counts : members_of r ≡ members

-- a world that is reached, where each member of e is up and active
pub record AllUp (n e : ℕ) (members : List ℕ) (w : World) : Type 0 where
  pub reached : IsReached n w
  pub few : HasFewBoots w
  pub member : (k : ℕ) → Among members k → (r : Replica) × IsMemberUp e members w k r
