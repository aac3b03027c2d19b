use Rattle.crsm_ledger.proofs.KeepLemmas.{enter-known}
use Rattle.crsm_ledger.proofs.StepLemmas.{says-enter}
use Rattle.crsm_ledger.proofs.ledger.Ledger.follow_enter.Goals as goal

pub returns-clause-kept : goal.returns-clause-kept
returns-clause-kept c = λ epoch me n log s fit. says-enter s epoch (enter-known me n log epoch fit)
