use Rattle.crsm_law_timing.proofs.Timing.{timelines_are_possible}
use Rattle.crsm_law_timing.proofs.timelines_are_possible.Goals as goal

pub returns : goal.returns
returns c plan es fit line = timelines_are_possible plan es fit line
