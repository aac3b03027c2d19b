use Rattle.crsm_law_calm.proofs.Bound.{rounds_answer}
use Rattle.crsm_law_calm.proofs.rounds_answer.Goals as goal

pub returns : goal.returns
returns z n h first second e ms t u p = rounds_answer n h first second e ms t u p
