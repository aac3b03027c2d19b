use Rattle.crsm_law_once.proofs.Laws.{one_changes}
use Rattle.crsm_law_once.proofs.one_changes_keys.Goals as goal

pub returns : goal.returns
returns c = one_changes
