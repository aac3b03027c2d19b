use Rattle.crsm_law_runs.proofs.Durable.{executed_are_durable}
use Rattle.crsm_law_runs.proofs.executed_are_durable.Goals as goal

pub returns : goal.returns
returns c n acts most p w a k place e there = executed_are_durable n acts most p w a k place e there
