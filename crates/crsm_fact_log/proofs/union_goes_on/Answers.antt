use Rattle.crsm_fact_log.proofs.Merge.{union_goes_on}
use Rattle.crsm_fact_log.proofs.union_goes_on.Goals as goal

pub returns : goal.returns
returns c = union_goes_on
