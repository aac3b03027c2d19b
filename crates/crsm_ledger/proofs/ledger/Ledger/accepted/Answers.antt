use Rattle.crsm_ledger.proofs.ReadLemmas.{accepted-is}
use Rattle.crsm_ledger.proofs.ledger.Ledger.accepted.Goals as goal

pub returns-in-Some-clause-value : goal.returns-in-Some-clause-value
returns-in-Some-clause-value c = λ me n log s. cc (accepted-is s.says)

pub returns-in-None-clause-value : goal.returns-in-None-clause-value
returns-in-None-clause-value c = λ me n log s. cc (accepted-is s.says)
