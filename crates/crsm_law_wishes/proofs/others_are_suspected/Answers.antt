use Rattle.crsm_law_wishes.proofs.Laws.{others_suspected}
use Rattle.crsm_law_wishes.proofs.others_are_suspected.Goals as goal

pub returns : goal.returns
returns c = others_suspected c.turns_append.ensures.wished
