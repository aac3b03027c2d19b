use Rattle.crsm_safety.proofs.Paxos.Repeats.{held_is_vote}
use Rattle.crsm_safety.proofs.one_instance.held_vote.Goals as goal

pub returns : goal.returns
returns g c spec s r = held_is_vote _ spec s r
