use Rattle.crsm_law_cases.proofs.Breaking.{old_logs_break}
use Rattle.crsm_law_cases.proofs.old_logs_break.Goals as goal

pub returns : goal.returns
returns z = old_logs_break
