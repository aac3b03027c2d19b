use Rattle.crsm_law_shards.proofs.Law.{one_store}
use Rattle.crsm_law_shards.proofs.shards_are_one_store.Goals as goal

pub returns : goal.returns
returns c = one_store
