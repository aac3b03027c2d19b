use Rattle.crsm_safety.proofs.Paxos.Instances.{one_decision}
use Rattle.crsm_safety.proofs.one_instance.choice.Goals as goal

pub returns : goal.returns
returns g c spec steps d e = one_decision _ spec steps d e
