use Rattle.crsm_fact_step.proofs.Ignored.{ignored_inputs_end}
use Rattle.crsm_fact_step.proofs.ignored_inputs_end.Goals as goal

pub returns : goal.returns
returns c = ignored_inputs_end
