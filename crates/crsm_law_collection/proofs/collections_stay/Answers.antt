use Rattle.crsm_law_collection.proofs.Law.{collections_stay}
use Rattle.crsm_law_collection.proofs.collections_stay.Goals as goal

pub returns : goal.returns
returns c = collections_stay
