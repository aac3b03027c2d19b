use Rattle.crsm_audit.proofs.Taking.{begins}
use Rattle.crsm_audit.proofs.state.Audit.new.Goals as goal

pub returns-clause-begins : goal.returns-clause-begins
returns-clause-begins c = begins c.args.n
