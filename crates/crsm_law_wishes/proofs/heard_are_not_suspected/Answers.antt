use Rattle.crsm_law_wishes.proofs.Laws.{heard_not_suspected}
use Rattle.crsm_law_wishes.proofs.heard_are_not_suspected.Goals as goal

pub returns : goal.returns
returns c = heard_not_suspected c.turns_append.ensures.wished
