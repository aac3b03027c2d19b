use Rattle.crsm_law_once.proofs.Repeats.{repeat}
use Rattle.crsm_law_once.proofs.commands_repeat.Goals as goal

pub returns : goal.returns
returns c = repeat
