use Rattle.crsm_law_lives.proofs.Right.{steps_are_right}
use Rattle.crsm_law_lives.proofs.steps_are_right.Goals as goal

pub returns : goal.returns
returns z n ls h few r short l a x m = steps_are_right n ls h few r short l a x m
