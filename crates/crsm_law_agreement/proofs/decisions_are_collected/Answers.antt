use Rattle.crsm_law_agreement.proofs.DecidedWorlds.{decisions_are_collected}
use Rattle.crsm_law_agreement.proofs.decisions_are_collected.Goals as goal

pub returns : goal.returns
returns c n e begins counted w q few spelt facts specs k d a at = decisions_are_collected n e begins counted w q few spelt facts specs k d a at
