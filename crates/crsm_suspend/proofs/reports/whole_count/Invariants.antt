use Rattle.std.proofs.Common.{◌≡◌, ◌≤◌, List, length, take}
use Rattle.crsm_spec.specs.Replica.{LogPage}
use Rattle.crsm_spec.specs.Collect.{whole_ones}
use Rattle.crsm_suspend.specs.Reports.{ReportsStand}
use Rattle.crsm_suspend.proofs.reports.whole_count.Given as goal

abbrev pub invariant-loop-k : goal.invariant-loop-k
invariant-loop-k l =
    (l.count ≤ l.k-index) × ((pages : List LogPage) → ReportsStand l.reports pages → l.count ≡ length (whole_ones (take l.k-index l.spec) pages))
