use Rattle.crsm_law_rounds.proofs.Bounded.{rounds_are_bounded}
use Rattle.crsm_law_rounds.proofs.rounds_are_bounded.Goals as goal

pub returns : goal.returns
returns c n one most acts run e ms t u calm first second rounds free = rounds_are_bounded n one most acts run e ms t u calm first second rounds free
