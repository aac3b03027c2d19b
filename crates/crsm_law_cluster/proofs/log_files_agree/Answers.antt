use Rattle.crsm_law_cluster.proofs.Agree.{log_files_agree}
use Rattle.crsm_law_cluster.proofs.log_files_agree.Goals as goal

pub returns : goal.returns
returns z n h most l few c d a b j k = log_files_agree n h most l few c d a b j k
