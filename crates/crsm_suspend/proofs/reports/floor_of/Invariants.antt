use Rattle.std.proofs.Common.{◌≡◌, List, drop}
use Rattle.crsm_spec.specs.Replica.{LogPage}
use Rattle.crsm_spec.specs.Collect.{whole_ones, first_pages, floor_of}
use Rattle.crsm_suspend.specs.Reports.{ReportsStand}
use Rattle.crsm_suspend.proofs.reports.floor_of.Given as goal

abbrev pub invariant-loop-k : goal.invariant-loop-k
invariant-loop-k l = (pages : List LogPage) → ReportsStand l.reports pages →
    floor_of l.base (first_pages (whole_ones l.spec pages) pages) ≡ floor_of l.base (first_pages (whole_ones (drop l.k-index l.spec) pages) pages)
