use Rattle.crsm_law_active.proofs.Staying.{steps_stay}
use Rattle.crsm_law_active.proofs.steps_stay.Goals as goal

pub returns : goal.returns
returns c r input reading calm = steps_stay r input reading calm
