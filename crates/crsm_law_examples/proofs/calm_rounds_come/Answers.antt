use Rattle.crsm_law_examples.proofs.CalmState.{calming}
use Rattle.crsm_law_examples.proofs.calm_rounds_come.Goals as goal

pub returns : goal.returns
returns c = calming
