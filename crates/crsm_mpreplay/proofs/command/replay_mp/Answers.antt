use Rattle.crsm_mpreplay.proofs.Exact.{are_exact}
use Rattle.crsm_mpreplay.proofs.Replayed.{ran_so}
use Rattle.crsm_mpreplay.proofs.command.replay_mp.Goals as goal

pub returns-clause-ran : goal.returns-clause-ran
returns-clause-ran g c = ran_so c.leader_runs_are_safe.ensures c.replay_over.result _ _ _ _ c.replay_over.ensures.ran

pub returns-clause-complete : goal.returns-clause-complete
returns-clause-complete g c = c.replay_over.ensures.complete are_exact

pub returns-clause-refused : goal.returns-clause-refused
returns-clause-refused g c = c.replay_over.ensures.refused are_exact

pub returns-clause-too_long : goal.returns-clause-too_long
returns-clause-too_long g c = c.replay_over.ensures.too_long are_exact
