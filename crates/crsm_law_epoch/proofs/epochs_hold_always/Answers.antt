use Rattle.crsm_law_epoch.proofs.LogWorlds.{epochs_hold_always}
use Rattle.crsm_law_epoch.proofs.epochs_hold_always.Goals as goal

pub returns : goal.returns
returns c n w r few = epochs_hold_always n w r few
