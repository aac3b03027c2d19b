use Rattle.crsm_law_cluster.proofs.RequestLaws.{real_time_is_kept}
use Rattle.crsm_law_cluster.proofs.real_time_is_kept.Goals as goal

pub returns : goal.returns
returns z n h q i j k m client number place address p v a e lt said is s at = real_time_is_kept n h q i j k m client number place address p v a e lt said is s at
