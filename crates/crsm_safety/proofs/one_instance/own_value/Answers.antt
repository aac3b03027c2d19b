use Rattle.crsm_safety.proofs.Paxos.Owned.{chosen_is_own}
use Rattle.crsm_safety.proofs.one_instance.own_value.Goals as goal

pub returns : goal.returns
returns g c spec steps d = chosen_is_own _ spec steps d
