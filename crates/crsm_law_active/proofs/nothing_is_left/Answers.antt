use Rattle.crsm_law_active.proofs.ServedWorlds.{nothing_is_left}
use Rattle.crsm_law_active.proofs.nothing_is_left.Goals as goal

pub returns : goal.returns
returns c n w q few k r e = nothing_is_left n w q few k r e
