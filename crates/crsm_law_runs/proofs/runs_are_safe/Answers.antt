use Rattle.crsm_law_runs.proofs.Safe.{runs_are_safe}
use Rattle.crsm_law_runs.proofs.runs_are_safe.Goals as goal

pub returns : goal.returns
returns c n some most acts p = runs_are_safe n some most acts p
