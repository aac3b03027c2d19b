use Rattle.crsm_law_mp.proofs.Safe.{safe}
use Rattle.crsm_law_mp.proofs.leader_runs_are_safe.Goals as goal

pub returns : goal.returns
returns c n some few acts may = safe n some few acts may
