use Rattle.crsm_law_once.proofs.Laws.{old_numbers}
use Rattle.crsm_law_once.proofs.old_numbers_change_nothing.Goals as goal

pub returns : goal.returns
returns c = old_numbers
