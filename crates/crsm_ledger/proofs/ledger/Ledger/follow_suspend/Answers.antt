use Rattle.crsm_ledger.proofs.StepLemmas.{says-suspend}
use Rattle.crsm_ledger.proofs.ledger.Ledger.follow_suspend.Goals as goal

pub returns-clause-kept : goal.returns-clause-kept
returns-clause-kept c = λ epoch me n log s fit. says-suspend s epoch
