use Rattle.crsm_law_worked.proofs.Started.{wrong_sizes_break}
use Rattle.crsm_law_worked.proofs.wrong_sizes_break.Goals as goal

pub returns : goal.returns
returns c = λ two. wrong_sizes_break c.args.peers.now two c.processes_are_histories.ensures c.steps_of_processes_are_right.ensures
