use Rattle.crsm_law_draws.proofs.Possibly.{possible_in}
use Rattle.crsm_law_draws.proofs.drawn_are_possible.Goals as goal

pub returns : goal.returns
returns c n w s founders room = possible_in n w _ founders room (c.drawn_can_happen.ensures n _ s)
