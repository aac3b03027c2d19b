use Rattle.crsm_law_collection.proofs.Prefixes.{complete_is_collected}
use Rattle.crsm_law_collection.proofs.complete_is_collected.Goals as goal

pub returns : goal.returns
returns c = complete_is_collected
