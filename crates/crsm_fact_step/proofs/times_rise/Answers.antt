use Rattle.crsm_fact_step.proofs.Logs.{times_rise}
use Rattle.crsm_fact_step.proofs.times_rise.Goals as goal

pub returns : goal.returns
returns c r input reading h = times_rise r input reading h
