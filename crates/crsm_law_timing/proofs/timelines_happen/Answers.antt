use Rattle.crsm_law_timing.proofs.Happening.{timelines_happen}
use Rattle.crsm_law_timing.proofs.timelines_happen.Goals as goal

pub returns : goal.returns
returns c = timelines_happen
