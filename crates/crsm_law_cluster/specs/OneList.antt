-- The one list of a history.
use Rattle.std.specs.Prelude.{ℕ, List, [], map, flat_map}
use Rattle.crsm_spec.specs.Types.{Entry}
use Rattle.crsm_spec.specs.Lists.{numbers_below}
use Rattle.crsm_spec.specs.Log.{executed}
use Rattle.crsm_spec.specs.Run.{longest}
use Rattle.crsm_spec.specs.World.{World, Site}
use Rattle.crsm_law_cluster.specs.Clusters.{Event, Cluster, log_in}
use Rattle.crsm_law_cluster.specs.Histories.{clusters}

-- the executed list of each log file, at each moment
unfoldable pub lists : ℕ → List Event → List (List Entry)
lists n h = flat_map (λ k. map (λ c. executed (log_in c k)) (clusters n h)) (numbers_below 15)

-- The one list of a history: the longest. No replica need hold it at the end.
unfoldable pub one_list : ℕ → List Event → List Entry
one_list n h = longest (lists n h)

-- the log files of a cluster, as a world in which all are down
unfoldable pub world_of : Cluster → World
world_of c = record { n = c.n; sites = map (λ p. Site.Down p.log) c.hosts; packets = []; bytes = 0 }
