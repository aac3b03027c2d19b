use Rattle.crsm_fact_step.proofs.Batches.{batches_are_logged}
use Rattle.crsm_fact_step.proofs.batches_are_logged.Goals as goal

pub returns : goal.returns
returns c = batches_are_logged
