use Rattle.crsm_safety.proofs.Paxos.Possible.{can_choose}
use Rattle.crsm_safety.proofs.one_instance.possible_choice.Goals as goal

pub returns : goal.returns
returns g c d = can_choose _ d
