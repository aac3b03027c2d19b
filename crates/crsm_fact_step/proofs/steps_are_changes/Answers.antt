use Rattle.crsm_fact_step.proofs.Fitted.{step_changes}
use Rattle.crsm_fact_step.proofs.steps_are_changes.Goals as goal

pub returns : goal.returns
returns c r input reading = step_changes r input reading
