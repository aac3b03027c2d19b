use Rattle.crsm_safety.proofs.Paxos.Repeats.{repeated}
use Rattle.crsm_safety.proofs.one_instance.repeated_answer.Goals as goal

pub returns : goal.returns
returns g c spec s r = repeated _ spec s r
