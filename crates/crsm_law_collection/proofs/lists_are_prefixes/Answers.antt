use Rattle.crsm_law_collection.proofs.Prefixes.{lists_are_prefixes}
use Rattle.crsm_law_collection.proofs.lists_are_prefixes.Goals as goal

pub returns : goal.returns
returns c = lists_are_prefixes
