use Rattle.crsm_law_examples.proofs.ChangeOfEpochs.{changes}
use Rattle.crsm_law_examples.proofs.epochs_change.Goals as goal

pub returns : goal.returns
returns c = changes
