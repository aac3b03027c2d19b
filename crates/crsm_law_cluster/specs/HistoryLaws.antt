-- The laws of histories.
use Rattle.std.specs.Prelude.{◌⊎◌, ℕ, ◌≤◌, ◌^◌, List, length}
use Rattle.crsm_spec.specs.Lists.{Among, IsPrefixOf}
use Rattle.crsm_spec.specs.Log.{executed}
use Rattle.crsm_law_cluster.specs.Clusters.{Event, Cluster, log_in}
use Rattle.crsm_law_cluster.specs.Histories.{clusters, last_cluster}
use Rattle.crsm_law_cluster.specs.Lawful.{IsLawful}
use Rattle.crsm_law_cluster.specs.Showing.{IsShown}

-- Every lawful history of a cluster that began with at most 15 replicas is shown by a world.
abbrev pub HistoriesAreShown : Type 0
HistoriesAreShown = (n : ℕ) (h : List Event) → n ≤ 15 → IsLawful n h → IsShown n h

-- No log has more than 2^50 records. A log file has at most 2^32 bytes, and each record takes one at least.
abbrev pub HasShortLogs : Cluster → Type 0
HasShortLogs c = (k : ℕ) → length (log_in c k) ≤ 2 ^ 50

-- Of the executed lists of two log files, at any moments, one is a prefix of the other: whatever was lost, repeated,
-- late or out of order, whichever processes were killed and restarted, whatever clients sent.
abbrev pub LogFilesAgree : Type 0
LogFilesAgree =
    (n : ℕ) (h : List Event) → n ≤ 15 → IsLawful n h → HasShortLogs (last_cluster n h) →
    (c d : Cluster) → Among (clusters n h) c → Among (clusters n h) d → (j k : ℕ) →
    IsPrefixOf (executed (log_in c j)) (executed (log_in d k)) ⊎ IsPrefixOf (executed (log_in d k)) (executed (log_in c j))
