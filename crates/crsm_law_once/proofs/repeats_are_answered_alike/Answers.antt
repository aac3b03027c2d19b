use Rattle.crsm_law_once.proofs.Laws.{repeats_alike}
use Rattle.crsm_law_once.proofs.repeats_are_answered_alike.Goals as goal

pub returns : goal.returns
returns c = repeats_alike
