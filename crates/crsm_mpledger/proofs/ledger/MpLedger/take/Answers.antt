use Rattle.crsm_mpledger.proofs.LedgerLemmas.{promises}
use Rattle.crsm_mpledger.proofs.ledger.MpLedger.take.Goals as goal

pub returns-in-Promise : goal.returns-in-Promise
returns-in-Promise c = rw c.in-Promise.is (λ log s may. promises c.args.self.now c.in-Promise.ballot log s may)
