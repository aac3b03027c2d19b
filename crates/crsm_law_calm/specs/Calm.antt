-- Calm states of running nodes.
use Rattle.std.specs.Prelude.{◌≡◌, ℕ, ◌+◌, ◌-◌, ◌≤◌, List, [], length, Contains, Some}
use Rattle.std.specs.List.{AllByRecursion}
use Rattle.crsm_spec.specs.Clock.{u64_max}
use Rattle.crsm_spec.specs.Types.{Entry, Rec}
use Rattle.crsm_spec.specs.Calm.{IsCalmMember, IsLaterDecide, IsOpen}
use Rattle.crsm_law_cluster.specs.Clusters.{Process, Cluster, host_at, log_in}
use Rattle.crsm_law_cluster.specs.OneList.{world_of}

-- Node k runs this process, and all its turns are kept.
pub record HasKept (c : Cluster) (k : ℕ) (x : Process) : Type 0 where
  pub runs : (host_at c k).process ≡ Some x
  pub log : log_in c k ≡ x.replica.log
  pub pending : x.pending ≡ []

-- And all that they handed out is sent.
pub record HasSent (c : Cluster) (k : ℕ) : Type 0 where
  pub process : Process
  pub kept : HasKept c k process
  pub sent : process.outbox ≡ []

-- Its replica is a calm member.
pub record IsCalmNode (e : ℕ) (members : List ℕ) (c : Cluster) (k : ℕ) : Type 0 where
  pub still : HasSent c k
  pub calm : IsCalmMember e members still.process.replica

-- The node of every member of epoch e is calm, no log file has a later decision, and at most 16 entries are open.
pub record IsCalmCluster (e : ℕ) (members : List ℕ) (c : Cluster) : Type 0 where
  pub nodes : AllByRecursion (IsCalmNode e members c) members
  pub latest : (k : ℕ) (rec : Rec) → Contains (log_in c k) rec → IsLaterDecide e rec → ⊥
  pub entries : List Entry
  pub all_open : (f : Entry) → IsOpen e members (world_of c) f → Contains entries f
  pub few_open : length entries ≤ 16

-- Each member's clock reads at least 10 above every time that any member has issued in the epoch, and is far from 2^64.
pub record AreCalmReadings (members : List ℕ) (c : Cluster) (at : ℕ → ℕ) : Type 0 where
  pub above : (k j time : ℕ) (x : Process) → Contains members k → Contains members j → (host_at c j).process ≡ Some x →
      Contains x.replica.issued time → time + 10 ≤ at k
  pub below : (k : ℕ) → Contains members k → at k ≤ u64_max - 100000
