use Rattle.crsm_law_collection.proofs.Freeze.{stays_frozen}
use Rattle.crsm_law_collection.proofs.stays_frozen.Goals as goal

pub returns : goal.returns
returns c = stays_frozen
