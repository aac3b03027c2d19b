use Rattle.crsm_law_collection.proofs.Suffices.{premises_suffice}
use Rattle.crsm_law_collection.proofs.premises_suffice.Goals as goal

pub returns : goal.returns
returns c = premises_suffice
