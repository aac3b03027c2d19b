use Rattle.crsm_law_runs.proofs.Durable.{decisions_are_chosen}
use Rattle.crsm_law_runs.proofs.decisions_are_chosen.Goals as goal

pub returns : goal.returns
returns c n acts most p = decisions_are_chosen n acts most p
