use Rattle.crsm_law_runs.proofs.Runs.{list_is_one}
use Rattle.crsm_law_runs.proofs.list_is_one.Goals as goal

pub returns : goal.returns
returns c n acts most p = list_is_one n acts most p
