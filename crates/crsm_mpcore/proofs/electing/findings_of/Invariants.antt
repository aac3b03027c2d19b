use Rattle.std.specs.Prelude.{length, map, take}
use Rattle.std.specs.List.{AllByRecursion}
use Rattle.crsm_mpreplica.specs.Fitting.{FitsReport}
use Rattle.crsm_mpreplica.specs.Notes.{report_of}
use Rattle.crsm_mpcore.specs.Findings.{FindingsStand, found_in}
use Rattle.crsm_mpcore.proofs.electing.findings_of.Given as goal

abbrev pub invariant-loop-report : goal.invariant-loop-report
invariant-loop-report l =
    AllByRecursion FitsReport (map report_of l.asking.reports.entries) → FindingsStand l.findings (found_in l.asking.start (take (length l.yielded) (map report_of l.asking.reports.entries)))
