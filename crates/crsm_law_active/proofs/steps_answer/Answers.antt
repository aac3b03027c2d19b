use Rattle.crsm_law_active.proofs.Answering.{steps_answer}
use Rattle.crsm_law_active.proofs.steps_answer.Goals as goal

pub returns : goal.returns
returns c r input reading calm w m = steps_answer r input reading calm w m
