use Rattle.crsm_delay.proofs.Exact.{exact}
use Rattle.crsm_delay.proofs.command.plans_are_exact.Goals as goal

pub returns : goal.returns
returns c = exact
