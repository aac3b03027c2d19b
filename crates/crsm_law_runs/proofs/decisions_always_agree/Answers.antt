use Rattle.crsm_law_runs.proofs.Decisions.{decisions_always_agree}
use Rattle.crsm_law_runs.proofs.decisions_always_agree.Goals as goal

pub returns : goal.returns
returns c n acts most p = decisions_always_agree n acts most p
