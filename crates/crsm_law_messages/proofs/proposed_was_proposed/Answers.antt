use Rattle.crsm_law_messages.proofs.Coordinators.{proposed_was_proposed}
use Rattle.crsm_law_messages.proofs.proposed_was_proposed.Goals as goal

pub returns : goal.returns
returns c n w s i b d t e = proposed_was_proposed n w s i b d t e
