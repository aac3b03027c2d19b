use Rattle.crsm_law_once.proofs.Laws.{passed_stale}
use Rattle.crsm_law_once.proofs.passed_numbers_are_stale.Goals as goal

pub returns : goal.returns
returns c = passed_stale
