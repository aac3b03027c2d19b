use Rattle.crsm_law_shown.proofs.Locks.{grants_ordered}
use Rattle.crsm_law_shown.proofs.grants_are_ordered.Goals as goal

pub returns : goal.returns
returns c = grants_ordered c.fences_rise.ensures c.grants_are_own.ensures
