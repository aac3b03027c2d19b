use Rattle.crsm_law_messages.proofs.Coordinators.{asked_was_asked}
use Rattle.crsm_law_messages.proofs.asked_was_asked.Goals as goal

pub returns : goal.returns
returns c n w s i b t e = asked_was_asked n w s i b t e
