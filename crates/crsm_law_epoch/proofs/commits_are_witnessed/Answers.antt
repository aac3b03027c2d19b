use Rattle.crsm_law_epoch.proofs.CommitWorlds.{commits_are_witnessed}
use Rattle.crsm_law_epoch.proofs.commits_are_witnessed.Goals as goal

pub returns : goal.returns
returns c n w r few = commits_are_witnessed n w r few
