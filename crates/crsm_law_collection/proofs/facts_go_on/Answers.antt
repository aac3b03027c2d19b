use Rattle.crsm_law_collection.proofs.Keep.{facts_go_on}
use Rattle.crsm_law_collection.proofs.facts_go_on.Goals as goal

pub returns : goal.returns
returns c = facts_go_on
