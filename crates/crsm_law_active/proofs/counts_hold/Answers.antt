use Rattle.crsm_law_active.proofs.Worlds.{counts_hold}
use Rattle.crsm_law_active.proofs.counts_hold.Goals as goal

pub returns : goal.returns
returns c n w q few k r e a = counts_hold n w q few k r e a
