-- Claiming a log for a cluster.
use Rattle.std.specs.Prelude.{◌≡◌, ◌≢◌, ◌⊎◌, ℕ, ◌+◌, ◌<◌, List, [], ◌++◌, Bool, false, not, Option, Some, None, if◌then◌else◌, ◌==◌, IsTrue}
use Rattle.crsm_base.specs.declared.limits.TheConstants.{MAX_LOG_BYTES}
use Rattle.crsm_port_faults.specs.Plan.{Plan}
use Rattle.crsm_port_image.specs.Calls.{Call}
use Rattle.crsm_disk.specs.Meaning.{LeavesOnly, Meaning, Only}
use Rattle.crsm_log.specs.Format.{bad, bodies_of, cluster_entry, cluster_of, found, gate_in, reading}
use Rattle.crsm_log.specs.Log.{IsAsBefore, MeetsIn, Serves, Used, entry_calls, mount_calls, mount_count, recorded, IsSettled}
use Rattle.crsm_log.specs.declared.entry.LogContents.{LogContents}
use Rattle.crsm_log.specs.declared.errors.ClaimError.{ClaimError}
use Rattle.crsm_log.specs.declared.errors.ClaimError.TheVariants.{DiskFault, BadGate, OtherCluster, Full, NoMemory}

-- whether a log that names this cluster, or none, needs an entry for the other
abbrev pub wants_entry : Option ℕ → ℕ → Bool
wants_entry None cluster = not (cluster == 0)
wants_entry (Some named) cluster = false

-- the cluster that a log names after the claim
abbrev pub claimed : Option ℕ → ℕ → Option ℕ
claimed None cluster = if cluster == 0 then None else Some cluster
claimed (Some named) cluster = Some named

-- the log names no cluster, or this one
abbrev pub IsOpenTo : ℕ → Option ℕ → Type 0
IsOpenTo cluster None = Unit {0}
IsOpenTo cluster (Some named) = named ≡ cluster

-- the disk calls that claim this file
abbrev pub entry_if : Bool → ℕ → ℕ → List Call
entry_if wanted gate cluster = if wanted then entry_calls gate (cluster_entry cluster) else []

abbrev pub claim_calls : List ℕ → ℕ → List Call
claim_calls file cluster = mount_calls file ++ entry_if (wants_entry (cluster_of file) cluster) (gate_in file) cluster

-- the number of disk calls of a claim, including those that read
abbrev pub claim_count : List ℕ → ℕ → ℕ
claim_count file cluster = mount_count file + (if wants_entry (cluster_of file) cluster then 4 else 0)

-- the bodies are those from before, and the cluster is that from before or the claimed one
pub record IsClaimed (before : List ℕ) (cluster : ℕ) (file : List ℕ) : Type 0 where
  pub bodies : reading file ≡ reading before
  pub names : (cluster_of file ≡ cluster_of before) ⊎ (cluster_of file ≡ claimed (cluster_of before) cluster)

-- bytes that a crash might have left before, or such a file
abbrev pub IsClaimedOrBefore : Meaning → ℕ → List ℕ → Type 0
IsClaimedOrBefore old cluster file = old.may_leave file ⊎ IsClaimed old.seen cluster file

-- the content of the disk when the log was read
pub record Holds (old new : Meaning) (held : LogContents) : Type 0 where
  pub cluster : cluster_of old.seen ≡ held.cluster
  pub gate : gate_in old.seen ≡ held.gate
  pub unwritten : (new.seen ≡ old.seen) ⊎ ((held.gate ≡ 0) × (held.cluster ≡ None))

-- the reason why a log that names this cluster, or none, is not claimed for the other
abbrev pub Forbids : ℕ → Option ℕ → ℕ → ClaimError → Type 0
Forbids gate named cluster DiskFault = ⊥
Forbids gate named cluster (BadGate entry) = ⊥
Forbids gate named cluster (OtherCluster other) = (named ≡ Some other) × (other ≢ cluster)
Forbids gate named cluster (Full end) = (named ≡ None) × (cluster ≢ 0) × (end ≡ gate + 14) × (MAX_LOG_BYTES < end)
Forbids gate named cluster NoMemory = ⊥

-- an honest disk is claimed
pub record Claims (old new : Meaning) (cluster : ℕ) : Type 0 where
  pub whole : reading old.seen ≡ found (bodies_of old.seen)
  pub open_to : IsOpenTo cluster (cluster_of old.seen)
  pub bodies : reading new.seen ≡ reading old.seen
  pub names : cluster_of new.seen ≡ claimed (cluster_of old.seen) cluster
  pub durable : Only new.seen new.may_leave
  pub history : new.history ≡ recorded (claim_calls old.seen cluster) old.history
  pub good : (p : Plan) → old.plan ≡ Some p → Used (claim_count old.seen cluster) p new.plan

-- the error is about the content, and not a failure
abbrev pub IsOfContent : ClaimError → Type 0
IsOfContent DiskFault = ⊥
IsOfContent (BadGate entry) = Unit {0}
IsOfContent (OtherCluster named) = Unit {0}
IsOfContent (Full end) = Unit {0}
IsOfContent NoMemory = ⊥

-- the disk is not claimed, for this reason
pub record RefusesClaim (old new : Meaning) (cluster : ℕ) (why : ClaimError) : Type 0 where
  pub bad_gate : (entry : ℕ) → why ≡ BadGate entry → reading old.seen ≡ bad entry
  pub other : (named : ℕ) → why ≡ OtherCluster named → (cluster_of old.seen ≡ Some named) × (named ≢ cluster)
  pub full : (end : ℕ) → why ≡ Full end → (cluster_of old.seen ≡ None) × (cluster ≢ 0) × (end ≡ gate_in old.seen + 14) × (MAX_LOG_BYTES < end)
  pub unwritten : (why ≡ DiskFault → ⊥) → new.seen ≡ old.seen
  pub as_before : (why ≡ DiskFault → ⊥) → LeavesOnly old new (IsAsBefore old)
  pub good : why ≡ DiskFault → MeetsIn (claim_count old.seen cluster) old.plan
  pub served : IsOfContent why → (p : Plan) → old.plan ≡ Some p → Serves 3 p.good

-- for an honest disk that names no cluster, with its closed gate here, and a claim for a number other than 0
abbrev pub WhereUnclaimed : ℕ → Meaning → ℕ → Type 0 → Type 0
WhereUnclaimed cluster old gate P = cluster ≢ 0 → cluster_of old.seen ≡ None → IsTrue old.honest → IsSettled old gate → P

-- the log names the cluster, has the bodies from before, and its closed gate is after the entry
abbrev pub AddsCluster : Meaning → Meaning → ℕ → ℕ → Type 0
AddsCluster old new gate cluster = IsSettled new (gate + 13) × (reading new.seen ≡ reading old.seen) × (cluster_of new.seen ≡ Some cluster)
