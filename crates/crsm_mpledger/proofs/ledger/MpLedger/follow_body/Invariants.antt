use Rattle.std.proofs.Common.{◌+◌, ◌≤◌, List, length}
use Rattle.crsm_mpspec.specs.declared.rec.MpRec.{MpRec}
use Rattle.crsm_mpspec.specs.Log.{Log}
use Rattle.crsm_mpspec.specs.Records.{SpeltBody}
use Rattle.crsm_mpledger.specs.MpLedger.{MpLedgerStands}
use Rattle.crsm_mpledger.specs.Sound.{IsSound, with_records}
use Rattle.crsm_mpledger.proofs.TakenLemmas.{IsLeft}
use Rattle.crsm_mpledger.proofs.ledger.MpLedger.follow_body.Given as goal

abbrev pub invariant-loop-taken : goal.invariant-loop-taken
invariant-loop-taken l =
    (log : Log) → MpLedgerStands l.initial.self log → (recs : List MpRec) → SpeltBody recs l.body → IsSound (with_records log recs)
    → (l._taken + length l.rest ≤ length l.body) × (part : Log) × MpLedgerStands l.self part × (more : List MpRec) × IsLeft part more l.rest (with_records log recs)
