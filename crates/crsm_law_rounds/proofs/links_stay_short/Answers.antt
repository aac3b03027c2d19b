use Rattle.crsm_law_rounds.proofs.Bounded.{links_stay_short}
use Rattle.crsm_law_rounds.proofs.links_stay_short.Goals as goal

pub returns : goal.returns
returns c n acts e ms t u p k j r a b ne up = links_stay_short n acts e ms t u p k j r a b ne up
