use Rattle.std.proofs.Common.{[]}
use Rattle.std.specs.Prelude.{drop}
use Rattle.crsm_mpspec.specs.Log.{Log}
use Rattle.crsm_mpledger.specs.MpLedger.{MpLedgerStands}
use Rattle.crsm_mpledger.specs.Sound.{IsSound, AreBodies}
use Rattle.crsm_mpledger.proofs.ledger.MpLedger.recover.Given as goal

abbrev pub invariant-loop-index : goal.invariant-loop-index
invariant-loop-index l =
    (log : Log) → AreBodies [] l.bodies log → IsSound log → (part : Log) × MpLedgerStands l.ledger part × AreBodies part (drop l.index l.bodies) log
