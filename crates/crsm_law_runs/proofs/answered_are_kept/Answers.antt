use Rattle.crsm_law_runs.proofs.Kept.{answered_are_kept}
use Rattle.crsm_law_runs.proofs.answered_are_kept.Goals as goal

pub returns : goal.returns
returns c n acts most p = answered_are_kept n acts most p
