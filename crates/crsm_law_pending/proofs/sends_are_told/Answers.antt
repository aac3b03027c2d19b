use Rattle.crsm_law_pending.proofs.Steps.{sends_are_told}
use Rattle.crsm_law_pending.proofs.sends_are_told.Goals as goal

pub returns : goal.returns
returns c = sends_are_told c.steps_are_changes.ensures
