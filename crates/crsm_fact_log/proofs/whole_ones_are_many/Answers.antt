use Rattle.crsm_fact_log.proofs.Merge.{whole_ones_are_many}
use Rattle.crsm_fact_log.proofs.whole_ones_are_many.Goals as goal

pub returns : goal.returns
returns c = whole_ones_are_many
