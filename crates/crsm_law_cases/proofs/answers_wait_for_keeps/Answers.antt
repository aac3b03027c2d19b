use Rattle.crsm_law_cases.proofs.Breaking.{answers_wait_for_keeps}
use Rattle.crsm_law_cases.proofs.answers_wait_for_keeps.Goals as goal

pub returns : goal.returns
returns z = answers_wait_for_keeps
