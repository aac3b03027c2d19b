use Rattle.crsm_law_epoch.proofs.LogWorlds.{logs_fit}
use Rattle.crsm_law_epoch.proofs.logs_fit.Goals as goal

pub returns : goal.returns
returns c n w r few k = logs_fit n w r few k
