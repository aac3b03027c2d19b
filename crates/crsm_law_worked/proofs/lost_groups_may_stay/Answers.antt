use Rattle.crsm_law_worked.proofs.KeptRuns.{lost_groups_may_stay}
use Rattle.crsm_law_worked.proofs.lost_groups_may_stay.Goals as goal

pub returns : goal.returns
returns c = λ two. lost_groups_may_stay c.args.peers.now two c.processes_are_histories.ensures c.steps_of_processes_are_right.ensures
