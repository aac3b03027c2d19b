use Rattle.crsm_law_collection.proofs.Law.{are_well_made}
use Rattle.crsm_law_collection.proofs.collections_are_well_made.Goals as goal

pub returns : goal.returns
returns c = are_well_made
