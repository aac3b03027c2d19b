use Rattle.crsm_law_steps.proofs.Happen.{runs}
use Rattle.crsm_law_steps.proofs.runs_are_reached.Goals as goal

pub returns : goal.returns
returns c n acts p = runs n acts p
