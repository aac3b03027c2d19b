use Rattle.crsm_law_worked.proofs.Runs.{worked_runs}
use Rattle.crsm_law_worked.proofs.runs_happen.Goals as goal

pub returns : goal.returns
returns c = λ two. worked_runs c.args.peers.now two c.processes_are_histories.ensures c.steps_of_processes_are_right.ensures
