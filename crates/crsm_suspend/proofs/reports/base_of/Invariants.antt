use Rattle.std.proofs.Common.{◌≡◌, List, take}
use Rattle.crsm_spec.specs.Replica.{LogPage}
use Rattle.crsm_spec.specs.Collect.{whole_ones, first_pages, base_of}
use Rattle.crsm_suspend.specs.Reports.{ReportsStand}
use Rattle.crsm_suspend.proofs.reports.base_of.Given as goal

abbrev pub invariant-loop-k : goal.invariant-loop-k
invariant-loop-k l = (pages : List LogPage) → ReportsStand l.reports pages → l.base ≡ base_of l.initial.base (first_pages (whole_ones (take l.k-index l.spec) pages) pages)
