use Rattle.crsm_fact_log.proofs.Merge.{union_is_one}
use Rattle.crsm_fact_log.proofs.union_is_one.Goals as goal

pub returns : goal.returns
returns c = union_is_one
