use Rattle.crsm_law_rounds.proofs.Bounded.{frames_are_taken}
use Rattle.crsm_law_rounds.proofs.frames_are_taken.Goals as goal

pub returns : goal.returns
returns c n acts e ms t u p = frames_are_taken n acts e ms t u p
