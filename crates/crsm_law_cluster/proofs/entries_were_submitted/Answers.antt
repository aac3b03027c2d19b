use Rattle.crsm_law_cluster.proofs.RequestLaws.{entries_were_submitted}
use Rattle.crsm_law_cluster.proofs.entries_were_submitted.Goals as goal

pub returns : goal.returns
returns z n h q place e at = entries_were_submitted n h q place e at
