use Rattle.crsm_law_processes.proofs.Files.{processes_are_histories}
use Rattle.crsm_law_processes.proofs.processes_are_histories.Goals as goal

pub returns : goal.returns
returns c = processes_are_histories c.one_spelling_each.ensures.body_has_one
