use Rattle.crsm_law_cases.proofs.Happening.{all_happens}
use Rattle.crsm_law_cases.proofs.all_happens.Goals as goal

pub returns : goal.returns
returns z = all_happens
