use Rattle.crsm_law_cluster.proofs.Durable.{log_files_are_durable}
use Rattle.crsm_law_cluster.proofs.log_files_are_durable.Goals as goal

pub returns : goal.returns
returns z n h q c a k place e at = log_files_are_durable n h q c a k place e at
