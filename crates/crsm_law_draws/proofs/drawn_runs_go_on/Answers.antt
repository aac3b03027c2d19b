use Rattle.crsm_law_draws.proofs.Possibly.{next_in}
use Rattle.crsm_law_draws.proofs.drawn_runs_go_on.Goals as goal

pub returns : goal.returns
returns c n acts s some most p starts room = next_in n _ _ (c.founders_stay.ensures n acts some most p starts) room (c.drawn_can_happen.ensures n _ s)
