use Rattle.crsm_law_messages.proofs.Counted.{votes_are_true}
use Rattle.crsm_law_messages.proofs.votes_are_true.Goals as goal

pub returns : goal.returns
returns c n w k i b j spelt d = votes_are_true n w k i b j spelt d
