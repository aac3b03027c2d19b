use Rattle.crsm_fact_log.proofs.Merge.{union_of_same}
use Rattle.crsm_fact_log.proofs.union_of_same.Goals as goal

pub returns : goal.returns
returns c = union_of_same
