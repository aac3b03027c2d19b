use Rattle.crsm_law_wishes.proofs.Laws.{ticks_timely}
use Rattle.crsm_law_wishes.proofs.ticks_are_timely.Goals as goal

pub returns : goal.returns
returns c = ticks_timely c.turns_append.ensures.wished
