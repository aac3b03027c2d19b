use Rattle.crsm_law_collection.proofs.Law.{commits_stand}
use Rattle.crsm_law_collection.proofs.commits_stand.Goals as goal

pub returns : goal.returns
returns c = commits_stand
