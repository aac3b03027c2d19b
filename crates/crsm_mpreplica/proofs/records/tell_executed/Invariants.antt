use Rattle.std.proofs.Common.{◌++◌, ◌-◌, ◌≤◌, length}
use Rattle.std.specs.Prelude.{take, drop}
use Rattle.crsm_mpspec.specs.Draft.{exec_lines}
use Rattle.crsm_mpspec.specs.Log.{Log, executed}
use Rattle.crsm_mpledger.specs.MpLedger.{MpLedgerStands, first_kept}
use Rattle.crsm_mpreplica.specs.Made.{MadeStands, Outcome}
use Rattle.crsm_mpreplica.proofs.records.tell_executed.Given as goal

abbrev pub invariant-loop-slot : goal.invariant-loop-slot
invariant-loop-slot l =
    (log : Log) (o : Outcome) → MpLedgerStands l.ledger log → first_kept l.ledger ≤ l.first → l.first ≤ length (executed log) → MadeStands l.initial.made o →
    MadeStands l.made (record o { lines = o.lines ++ exec_lines l.me (take l.first (executed log)) (take (l.slot - l.first) (drop l.first (executed log))) })
