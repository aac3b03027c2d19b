use Rattle.crsm_law_cluster.proofs.Last.{lists_are_one}
use Rattle.crsm_law_cluster.proofs.lists_are_one.Goals as goal

pub returns : goal.returns
returns c n h q = lists_are_one n h q
