use Rattle.crsm_safety.proofs.Paxos.PossibleDecision.{can_decide}
use Rattle.crsm_safety.proofs.instances.possible_decision.Goals as goal

pub returns : goal.returns
returns g c d = can_decide _ d
