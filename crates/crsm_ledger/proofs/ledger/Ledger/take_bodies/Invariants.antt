use Rattle.std.proofs.Common.{ℕ, [], take}
use Rattle.crsm_spec.specs.Log.{Log}
use Rattle.crsm_ledger.specs.Ledger.{LedgerStands}
use Rattle.crsm_ledger.specs.Recovered.{AreKept}
use Rattle.crsm_ledger.specs.Taken.{IsAtHand, IsTail}
use Rattle.crsm_ledger.proofs.ledger.Ledger.take_bodies.Given as goal

abbrev pub invariant-loop-index : goal.invariant-loop-index
invariant-loop-index l =
    ((me n : ℕ) → LedgerStands me n l.initial.self [] → (log : Log) × AreKept me n [] (take l.index l.bodies) log × LedgerStands me n l.self log)
    × IsAtHand l.next.accepted.now l.self.accepted × IsTail l.next.tail.now l.self.known
