-- The laws of sheets that the nodes of a cluster wrote.
use Rattle.std.specs.Prelude.{ℕ, ◌≤◌, List}
use Rattle.crsm_spec_process.specs.Lives.{Life}
use Rattle.crsm_law_cluster.specs.Clusters.{Event}
use Rattle.crsm_law_cluster.specs.Histories.{last_cluster}
use Rattle.crsm_law_cluster.specs.HistoryLaws.{HasShortLogs}
use Rattle.crsm_law_lives.specs.Premises.{Ran}
use Rattle.crsm_law_sheets.specs.Sheets.{Sheet}
use Rattle.crsm_law_sheets.specs.Verdicts.{Agree}
use Rattle.crsm_law_honest.specs.Honest.{AreWrittenBy, EndComplete, EndWhole}

-- Sheets that nodes wrote have no fault, if the last sheet of each node has all that its log file has of its own.
abbrev pub HonestSheetsAgree : Type 0
HonestSheetsAgree =
    (n : ℕ) (ls : List Life) (h : List Event) → n ≤ 15 → Ran n ls h → HasShortLogs (last_cluster n h) →
    (sheets : List Sheet) → AreWrittenBy ls sheets → EndComplete n h sheets → Agree n sheets

-- The last sheet of a node is complete if it is that of the node's last process, with all turns that this one kept.
abbrev pub WholeSheetsAreComplete : Type 0
WholeSheetsAreComplete =
    (n : ℕ) (ls : List Life) (h : List Event) → Ran n ls h → (sheets : List Sheet) → EndWhole n ls sheets →
    EndComplete n h sheets
