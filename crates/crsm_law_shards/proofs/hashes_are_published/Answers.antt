use Rattle.crsm_law_shards.proofs.Example.{published}
use Rattle.crsm_law_shards.proofs.hashes_are_published.Goals as goal

pub returns : goal.returns
returns c = published
