use Rattle.crsm_law_calm.proofs.Happening.{rounds_happen}
use Rattle.crsm_law_calm.proofs.rounds_happen.Goals as goal

pub returns : goal.returns
returns z = rounds_happen
