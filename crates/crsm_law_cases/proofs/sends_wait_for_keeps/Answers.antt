use Rattle.crsm_law_cases.proofs.Breaking.{sends_wait_for_keeps}
use Rattle.crsm_law_cases.proofs.sends_wait_for_keeps.Goals as goal

pub returns : goal.returns
returns z = sends_wait_for_keeps
