-- Replies that are sent.
use Rattle.std.specs.Prelude.{◌≡◌, ℕ, List, Some, slice_get}
use Rattle.crsm_spec.specs.Draft.{Reply}
use Rattle.crsm_law_cluster.specs.Clusters.{Event, Outgoing, Cluster, next_out}
use Rattle.crsm_law_cluster.specs.Histories.{clusters}

-- the i-th event, and the cluster before it
pub record IsAt (n : ℕ) (h : List Event) (i : ℕ) (c : Cluster) (e : Event) : Type 0 where
  pub cluster : slice_get (clusters n h) i ≡ Some c
  pub event : slice_get h i ≡ Some e

-- The i-th event sends this reply at replica k.
abbrev pub IsReplied : ℕ → List Event → ℕ → ℕ → Reply → Type 0
IsReplied n h i k a = (c : Cluster) × IsAt n h i c (Event.Sends k) × (next_out c k ≡ Some (Outgoing.ToClient a))
