use Rattle.crsm_law_cluster.proofs.RequestLaws.{replies_reach_who_asked}
use Rattle.crsm_law_cluster.proofs.replies_reach_who_asked.Goals as goal

pub returns : goal.returns
returns z n h q = replies_reach_who_asked n h q
