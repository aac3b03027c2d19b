use Rattle.crsm_law_epoch.proofs.Worlds.{epochs_hold}
use Rattle.crsm_law_epoch.proofs.epochs_hold.Goals as goal

pub returns : goal.returns
returns c n w r well = epochs_hold n w r well
