use Rattle.crsm_law_epoch.proofs.LogWorlds.{decisions_are_ordered}
use Rattle.crsm_law_epoch.proofs.decisions_are_ordered.Goals as goal

pub returns : goal.returns
returns c n w r k = decisions_are_ordered n w r k
