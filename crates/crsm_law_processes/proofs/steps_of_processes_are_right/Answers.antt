use Rattle.crsm_law_processes.proofs.Files.{steps_of_processes}
use Rattle.crsm_law_processes.proofs.steps_of_processes_are_right.Goals as goal

pub returns : goal.returns
returns c = steps_of_processes c.processes_are_histories.ensures
