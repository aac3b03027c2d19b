use Rattle.crsm_fact_log.proofs.Merge.{merged_as_they_come}
use Rattle.crsm_fact_log.proofs.merged_as_they_come.Goals as goal

pub returns : goal.returns
returns c = merged_as_they_come
