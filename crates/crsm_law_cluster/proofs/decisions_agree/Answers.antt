use Rattle.crsm_law_cluster.proofs.Durable.{decisions_agree}
use Rattle.crsm_law_cluster.proofs.decisions_agree.Goals as goal

pub returns : goal.returns
returns c n h q = decisions_agree n h q
