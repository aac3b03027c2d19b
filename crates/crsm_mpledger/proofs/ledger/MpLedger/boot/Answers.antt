use Rattle.crsm_mpledger.proofs.LedgerLemmas.{boots-once}
use Rattle.crsm_mpledger.proofs.ledger.MpLedger.boot.Goals as goal

pub returns : goal.returns
returns c log s = boots-once c.args.self.now log s
