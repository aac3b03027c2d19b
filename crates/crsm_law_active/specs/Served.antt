-- What a replica that is up still has to do between steps.
use Rattle.std.specs.Prelude.{◌≡◌, ℕ, IsTrue, None, Some, slice_get}
use Rattle.crsm_spec.specs.Lists.{Among}
use Rattle.crsm_spec.specs.Log.{known, executed, active}
use Rattle.crsm_spec.specs.Replica.{Replica, Waiting}
use Rattle.crsm_spec.specs.Clients.{find_executed}
use Rattle.crsm_spec.specs.World.{Site, World}
use Rattle.crsm_fact_log.specs.Logs.{Logged}
use Rattle.crsm_law_steps.specs.Happenings.{IsReached}
use Rattle.crsm_law_epoch.specs.LogWorlds.{HasFewBoots}
use Rattle.crsm_law_active.specs.Musts.{NoneReady}

-- Client c of replica k waits for an entry of k that is logged and not executed, in the known epoch if k is active.
pub record WaitsRightly (k : ℕ) (r : Replica) (c : Waiting) : Type 0 where
  pub logged : Logged r.log c.entry
  pub own : c.entry.stamp.origin ≡ k
  pub pending : find_executed (executed r.log) c.entry ≡ None
  pub epoch : IsTrue (active r.log) → c.entry.epoch ≡ known r.log

-- No entry is ready at k, and no client waits for an executed entry.
pub record IsDone (k : ℕ) (r : Replica) : Type 0 where
  pub idle : IsTrue (active r.log) → NoneReady r
  pub waits : (c : Waiting) → Among r.waiting c → WaitsRightly k r c

-- In every world reached each replica that is up has nothing left to do.
abbrev pub NothingIsLeft : Type 0
NothingIsLeft =
    (n : ℕ) (w : World) → IsReached n w → HasFewBoots w → (k : ℕ) (r : Replica) → slice_get w.sites k ≡ Some (Site.Up r) → IsDone k r
