-- Which replicas can boot.
use Rattle.std.specs.Prelude.{◌≡◌, ◌<◌, ℕ, Some, slice_get}
use Rattle.crsm_spec.specs.Log.{Log}
use Rattle.crsm_spec.specs.World.{Site, World}
use Rattle.crsm_spec.specs.Moments.{with_room}
use Rattle.crsm_schedule.specs.declared.Event.{Event}
use Rattle.crsm_world.specs.declared.machines.Machines.{Machines}
use Rattle.crsm_world.specs.Machines.{IsNotUpAt}

-- replica k is down, or is the next new one
pub record CanStart (w : World) (k : ℕ) : Type 0 where
  pub below : k < 15
  pub log : Log
  pub down : slice_get (with_room w k).sites k ≡ Some (Site.Down log)

-- the machine that the event boots, if it boots one, is not up
abbrev pub IsReady : Event → Machines → Type 0
IsReady (Event.Start k) machines = IsNotUpAt machines k
IsReady _ machines = Unit {0}
