use Rattle.crsm_law_collection.proofs.Keep.{facts_of_state_go_on}
use Rattle.crsm_law_collection.proofs.facts_of_state_go_on.Goals as goal

pub returns : goal.returns
returns c = facts_of_state_go_on
