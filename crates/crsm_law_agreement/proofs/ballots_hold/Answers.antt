use Rattle.crsm_law_agreement.proofs.DecidedWorlds.{ballots_hold}
use Rattle.crsm_law_agreement.proofs.ballots_hold.Goals as goal

pub returns : goal.returns
returns c n w q few spelt = ballots_hold n w q few spelt
