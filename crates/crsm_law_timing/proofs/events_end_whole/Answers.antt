use Rattle.crsm_law_timing.proofs.SoFar.{events_end_whole}
use Rattle.crsm_law_timing.proofs.events_end_whole.Goals as goal

pub returns : goal.returns
returns c = events_end_whole
