-- A history in which a datagram is cut.
use Rattle.std.specs.Prelude.{ℕ, List, [], ◌∷◌}
use Rattle.crsm_law_cluster.specs.Clusters.{Event}
use Rattle.crsm_law_cluster.specs.ClusterLaws.{IsHistory}
use Rattle.crsm_law_parts.specs.Cuts.{cuts_of}

-- the addresses of replicas 0 and 1
abbrev pub addresses : List ℕ
addresses = 70 ∷ 71 ∷ []

-- A lawful history that began with one replica, which executes three commands with long values; a new replica asks
-- for what was executed, and the page with the three entries is cut. Its send fails.
pub record CutsHappen : Type 0 where
  pub h : List Event
  pub is : IsHistory 1 h
  pub bytes : List ℕ
  pub cut : cuts_of 1 h 0 addresses 70 bytes
