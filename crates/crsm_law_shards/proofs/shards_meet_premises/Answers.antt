use Rattle.crsm_law_shards.proofs.Example.{meet}
use Rattle.crsm_law_shards.proofs.shards_meet_premises.Goals as goal

pub returns : goal.returns
returns c = meet
