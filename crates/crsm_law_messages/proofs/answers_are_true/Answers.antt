use Rattle.crsm_law_messages.proofs.Counted.{answers_are_true}
use Rattle.crsm_law_messages.proofs.answers_are_true.Goals as goal

pub returns : goal.returns
returns c n w k i b a spelt d = answers_are_true n w k i b a spelt d
