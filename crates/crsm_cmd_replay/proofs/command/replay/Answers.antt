use Rattle.crsm_cmd_replay.proofs.Exact.{are_exact}
use Rattle.crsm_cmd_replay.proofs.command.replay.Goals as goal

pub returns-clause-complete : goal.returns-clause-complete
returns-clause-complete g c = c.replay_over.ensures.complete are_exact

pub returns-clause-refused : goal.returns-clause-refused
returns-clause-refused g c = c.replay_over.ensures.refused are_exact

pub returns-clause-too_long : goal.returns-clause-too_long
returns-clause-too_long g c = c.replay_over.ensures.too_long are_exact
