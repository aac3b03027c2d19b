-- Worlds of the definitions that show clusters of running nodes.
use Rattle.std.specs.Prelude.{◌≡◌, ◌⊎◌, ℕ, ◌<◌, ◌≤◌, List, [], Some, slice_get}
use Rattle.crsm_spec.specs.Types.{Datagram}
use Rattle.crsm_spec.specs.Lists.{Among}
use Rattle.crsm_spec.specs.Draft.{Reply}
use Rattle.crsm_spec.specs.Step.{founding_boot}
use Rattle.crsm_spec.specs.World.{World, log_at}
use Rattle.crsm_law_steps.specs.Laws.{LogsGoOn}
use Rattle.crsm_law_steps.specs.Happenings.{WasSent, IsReached}
use Rattle.crsm_law_cluster.specs.Clusters.{Event, Outgoing, Process, Cluster, host_at, log_in}
use Rattle.crsm_law_cluster.specs.Histories.{clusters, last_cluster}
use Rattle.crsm_law_cluster.specs.Told.{IsTold}

-- The world's log of number k is that of the log file, or that of a first boot if a founder has no log file yet.
abbrev pub IsLogOf : ℕ → Cluster → World → ℕ → Type 0
IsLogOf n c w k = (log_in c k ≡ log_at w k) ⊎ ((k < n) × (log_in c k ≡ []) × (log_at w k ≡ (founding_boot k n).replica.log))

-- n replicas reach the world, it has the logs of all log files, all that was sent was sent there, and each reply that
-- waits to be sent has its line.
pub record IsShownBy (n : ℕ) (c : Cluster) (w : World) : Type 0 where
  pub size : c.n ≡ n
  pub reached : IsReached n w
  pub logs : (k : ℕ) → IsLogOf n c w k
  pub sent : (k : ℕ) (d : Datagram) → Among c.sent (k, d) → (j : ℕ) × WasSent w j k d
  pub told : (k : ℕ) (x : Process) (a : Reply) → (host_at c k).process ≡ Some x → Among x.outbox (Outgoing.ToClient a) → IsTold n w a

-- Worlds show a cluster and a later one, and the logs are extended from the first to the second and from there to the
-- end.
pub record AreShownBy (n : ℕ) (c d : Cluster) (end : World) : Type 0 where
  pub world : World
  pub shown : IsShownBy n c world
  pub next : World
  pub next_shown : IsShownBy n d next
  pub later : LogsGoOn world next
  pub goes_on : LogsGoOn next end

-- A world shows the end of the history, and worlds on the way to it show the clusters before.
pub record IsShown (n : ℕ) (h : List Event) : Type 0 where
  pub end : World
  pub last : IsShownBy n (last_cluster n h) end
  pub between : (i j : ℕ) (c d : Cluster) → i ≤ j → slice_get (clusters n h) i ≡ Some c → slice_get (clusters n h) j ≡ Some d → AreShownBy n c d end
