use Rattle.crsm_law_shards.proofs.Example.{untimely}
use Rattle.crsm_law_shards.proofs.untimely_shards_are_none.Goals as goal

pub returns : goal.returns
returns c = untimely
