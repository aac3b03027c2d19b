use Rattle.crsm_law_once.proofs.Laws.{tells_first}
use Rattle.crsm_law_once.proofs.answers_tell_the_first.Goals as goal

pub returns : goal.returns
returns c = tells_first
