use Rattle.crsm_law_cases.proofs.Breaking.{forged_frames_break}
use Rattle.crsm_law_cases.proofs.forged_frames_break.Goals as goal

pub returns : goal.returns
returns z = forged_frames_break
