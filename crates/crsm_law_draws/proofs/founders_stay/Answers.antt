use Rattle.crsm_law_draws.proofs.Runs.{founders_stay}
use Rattle.crsm_law_draws.proofs.founders_stay.Goals as goal

pub returns : goal.returns
returns c n acts some most p s = founders_stay n acts some (c.worlds_are_on_the_way.ensures n acts most p).1.spelt.messages p s
