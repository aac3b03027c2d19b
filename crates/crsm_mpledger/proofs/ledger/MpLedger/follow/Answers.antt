use Rattle.crsm_mpledger.proofs.LedgerLemmas.{boots-once, promises}
use Rattle.crsm_mpledger.proofs.ledger.MpLedger.follow.Goals as goal

pub returns-in-Boot-clause-stands : goal.returns-in-Boot-clause-stands
returns-in-Boot-clause-stands c = rw c.in-Boot.is (λ log s may. boots-once c.args.self.now log s)

pub returns-in-Promise-clause-stands : goal.returns-in-Promise-clause-stands
returns-in-Promise-clause-stands c = rw c.in-Promise.is (λ log s may. promises c.args.self.now c.in-Promise.ballot log s may)
