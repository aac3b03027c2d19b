use Rattle.crsm_law_worked.proofs.Breaking.{clusters_are_small}
use Rattle.crsm_law_worked.proofs.clusters_are_small.Goals as goal

pub returns : goal.returns
returns c = clusters_are_small
