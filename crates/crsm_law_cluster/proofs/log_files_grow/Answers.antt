use Rattle.crsm_law_cluster.proofs.Last.{log_files_grow}
use Rattle.crsm_law_cluster.proofs.log_files_grow.Goals as goal

pub returns : goal.returns
returns z n h q i j c d le p r k = log_files_grow n h q i j c d le p r k
