use Rattle.crsm_clock.proofs.Times.{rises}
use Rattle.crsm_clock.proofs.rising.issues_rise.Goals as goal

pub returns : goal.returns
returns c = rises
