use Rattle.crsm_law_cluster.proofs.Showing.{histories_are_shown}
use Rattle.crsm_law_cluster.proofs.histories_are_shown.Goals as goal

pub returns : goal.returns
returns c n h most l = histories_are_shown n h most l
