use Rattle.std.proofs.Common.{◌≡◌, List, take}
use Rattle.crsm_spec.specs.Replica.{LogPage}
use Rattle.crsm_spec.specs.Log.{above}
use Rattle.crsm_spec.specs.Collect.{whole_ones, all_entries, union}
use Rattle.crsm_suspend.specs.Reports.{ReportsStand}
use Rattle.crsm_suspend.proofs.reports.union_of.Given as goal

abbrev pub invariant-loop-k : goal.invariant-loop-k
invariant-loop-k l = (pages : List LogPage) → ReportsStand l.reports pages → l.set ≡ union (above l.floor (all_entries (whole_ones (take l.k-index l.spec) pages) pages))
