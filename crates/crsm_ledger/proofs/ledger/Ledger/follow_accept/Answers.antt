use Rattle.crsm_ledger.proofs.StepLemmas.{says-accept}
use Rattle.crsm_ledger.proofs.ledger.Ledger.follow_accept.Goals as goal

pub returns-clause-kept : goal.returns-clause-kept
returns-clause-kept c = λ instance me n log s fit. says-accept s instance c.args.ballot c.args.decision

pub returns-clause-anew : goal.returns-clause-anew
returns-clause-anew c = λ a instance me n log s fit. says-accept s instance c.args.ballot c.args.decision
