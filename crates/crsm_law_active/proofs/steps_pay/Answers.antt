use Rattle.crsm_law_active.proofs.Paying.{steps_pay}
use Rattle.crsm_law_active.proofs.steps_pay.Goals as goal

pub returns : goal.returns
returns c r reading a h le far = steps_pay r reading a h le far
