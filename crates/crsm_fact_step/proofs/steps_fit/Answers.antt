use Rattle.crsm_fact_step.proofs.Logs.{steps_fit}
use Rattle.crsm_fact_step.proofs.steps_fit.Goals as goal

pub returns : goal.returns
returns c r input reading h = steps_fit r input reading h
