use Rattle.crsm_law_shards.proofs.Clusters.{one_store}
use Rattle.crsm_law_shards.proofs.clusters_are_one_store.Goals as goal

pub returns : goal.returns
returns c = one_store c.answers_are_right.ensures c.real_time_is_kept.ensures c.shards_are_one_store.ensures
