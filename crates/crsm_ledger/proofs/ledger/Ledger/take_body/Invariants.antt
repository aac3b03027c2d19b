use Rattle.std.proofs.Common.{ℕ, List, length}
use Rattle.crsm_spec.specs.Types.{Rec}
use Rattle.crsm_spec.specs.Log.{Log}
use Rattle.crsm_ledger.specs.Ledger.{LedgerStands}
use Rattle.crsm_ledger.specs.Recovered.{FitInTurn, with_records}
use Rattle.crsm_ledger.specs.Taken.{HasRead, IsAtHand, IsTail}
use Rattle.crsm_ledger.proofs.ledger.Ledger.take_body.Given as goal

abbrev pub invariant-loop-self : goal.invariant-loop-self
invariant-loop-self l =
    (recs : List Rec) × HasRead l.body recs l.next.rest.now
    × ((me n : ℕ) (log : Log) → LedgerStands me n l.initial.self log → FitInTurn me n log recs × LedgerStands me n l.self (with_records log recs))
    × IsAtHand l.next.accepted.now l.self.accepted × IsTail l.next.tail.now l.self.known

abbrev pub decreases-loop-self : goal.decreases-loop-self
decreases-loop-self l = length l.next.rest.now
