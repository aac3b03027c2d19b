use Rattle.crsm_law_bounds.proofs.Short.{runs_are_spelt}
use Rattle.crsm_law_bounds.proofs.runs_are_spelt.Goals as goal

pub returns : goal.returns
returns c n acts most p = runs_are_spelt n acts most p
