use Rattle.crsm_law_timing.proofs.Moments.{moments_are_so}
use Rattle.crsm_law_timing.proofs.moments_are_so.Goals as goal

pub returns : goal.returns
returns c = moments_are_so
