use Rattle.crsm_law_active.proofs.Musts.{steps_take}
use Rattle.crsm_law_active.proofs.steps_take.Goals as goal

pub returns : goal.returns
returns c r a k p reading act le ne mem odd fit = steps_take r a k p reading act le ne mem odd fit
