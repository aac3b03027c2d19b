use Rattle.crsm_law_runs.proofs.Runs.{worlds_are_on_the_way}
use Rattle.crsm_law_runs.proofs.worlds_are_on_the_way.Goals as goal

pub returns : goal.returns
returns c n acts most p = worlds_are_on_the_way n acts most p
