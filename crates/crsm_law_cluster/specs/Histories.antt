-- Histories: lists of events, and the clusters that they lead through.
use Rattle.std.specs.Prelude.{ℕ, List, [], ◌∷◌}
use Rattle.crsm_law_cluster.specs.Clusters.{Event, Cluster, after, unborn}

-- the cluster before each event, and at the end
unfoldable pub clusters_from : Cluster → List Event → List Cluster
clusters_from c [] = c ∷ []
clusters_from c (e ∷ es) = c ∷ clusters_from (after c e) es

-- every cluster of a history that began with n replicas
unfoldable pub clusters : ℕ → List Event → List Cluster
clusters n h = clusters_from (unborn n) h

-- the cluster at the end
unfoldable pub last_from : Cluster → List Event → Cluster
last_from c [] = c
last_from c (e ∷ es) = last_from (after c e) es

-- the cluster at the end of a history that began with n replicas
unfoldable pub last_cluster : ℕ → List Event → Cluster
last_cluster n h = last_from (unborn n) h
