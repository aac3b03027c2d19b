use Rattle.crsm_safety.proofs.Paxos.Repeats.{reached_more, chosen_more}
use Rattle.crsm_safety.proofs.one_instance.one_more_step.Goals as goal

pub returns-clause-reached : goal.returns-clause-reached
returns-clause-reached g c spec = reached_more _ spec

pub returns-clause-chosen : goal.returns-clause-chosen
returns-clause-chosen g c spec = chosen_more _ spec
