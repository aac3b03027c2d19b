use Rattle.crsm_law_active.proofs.Again.{steps_send_again}
use Rattle.crsm_law_active.proofs.steps_send_again.Goals as goal

pub returns : goal.returns
returns c r reading j a d m most le = steps_send_again r reading j a d m most le
