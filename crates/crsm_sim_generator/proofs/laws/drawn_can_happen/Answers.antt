use Rattle.crsm_sim_generator.proofs.CanHappen.{can_happen}
use Rattle.crsm_sim_generator.proofs.laws.drawn_can_happen.Goals as goal

pub returns : goal.returns
returns c = can_happen
