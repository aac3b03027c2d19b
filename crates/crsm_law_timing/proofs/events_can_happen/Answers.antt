use Rattle.crsm_law_timing.proofs.SoFar.{events_can_happen}
use Rattle.crsm_law_timing.proofs.events_can_happen.Goals as goal

pub returns : goal.returns
returns c = events_can_happen
