use Rattle.crsm_law_steps.proofs.Moments.{logs_grow}
use Rattle.crsm_law_steps.proofs.logs_grow.Goals as goal

pub returns : goal.returns
returns c n acts p = logs_grow n acts p
