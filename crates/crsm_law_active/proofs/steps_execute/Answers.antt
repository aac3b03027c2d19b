use Rattle.crsm_law_active.proofs.Execute.{steps_execute}
use Rattle.crsm_law_active.proofs.steps_execute.Goals as goal

pub returns : goal.returns
returns c r input reading fit act = steps_execute r input reading fit act
