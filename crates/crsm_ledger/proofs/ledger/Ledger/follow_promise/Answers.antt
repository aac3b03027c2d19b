use Rattle.crsm_ledger.proofs.StepLemmas.{says-promise}
use Rattle.crsm_ledger.proofs.ledger.Ledger.follow_promise.Goals as goal

pub returns-clause-kept : goal.returns-clause-kept
returns-clause-kept c = λ instance me n log s fit. says-promise s instance c.args.ballot
