use Rattle.crsm_law_collection.proofs.Prefixes.{start_rises}
use Rattle.crsm_law_collection.proofs.start_rises.Goals as goal

pub returns : goal.returns
returns c = start_rises
