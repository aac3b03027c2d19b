use Rattle.crsm_law_lives.proofs.Laws.{lives_are_lawful}
use Rattle.crsm_law_lives.proofs.lives_are_lawful.Goals as goal

pub returns : goal.returns
returns z n ls h most r = lives_are_lawful n ls h most r
