use Rattle.crsm_safety.proofs.Paxos.Best.{best_is}
use Rattle.crsm_safety.proofs.one_instance.best_answer.Goals as goal

pub returns : goal.returns
returns g c answers = best_is _ answers
