use Rattle.crsm_law_messages.proofs.Coordinators.{coordinators_are_true}
use Rattle.crsm_law_messages.proofs.coordinators_are_true.Goals as goal

pub returns : goal.returns
returns c n w k p = coordinators_are_true n w k p
