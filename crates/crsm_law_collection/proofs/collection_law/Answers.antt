use Rattle.crsm_law_collection.proofs.Law.{collection_law}
use Rattle.crsm_law_collection.proofs.collection_law.Goals as goal

pub returns : goal.returns
returns c = collection_law
