-- The laws of audits of sheets that nodes wrote.
use Rattle.std.specs.Prelude.{ℕ, ◌≤◌, List}
use Rattle.crsm_spec_process.specs.Lives.{Life}
use Rattle.crsm_law_cluster.specs.Clusters.{Event}
use Rattle.crsm_law_cluster.specs.Histories.{last_cluster}
use Rattle.crsm_law_cluster.specs.HistoryLaws.{HasShortLogs}
use Rattle.crsm_law_lives.specs.Premises.{Ran}
use Rattle.crsm_law_honest.specs.Honest.{EndComplete}
use Rattle.crsm_audit.specs.Sheets.{IsAudited, sheets_in}
use Rattle.crsm_audit.specs.declared.verdict.Verdict.{Verdict}
use Rattle.crsm_law_alarms.specs.Lines.{AreOfProcesses, EndInWholeSheets}

-- the verdict is that the sheets agree
abbrev pub SaysAgree : Verdict → Type 0
SaysAgree (Verdict.Agree places) = Unit {0}
SaysAgree _ = ⊥

-- Whatever sheets of a history an audit reads, and whatever text it writes: if the last sheet of each node is complete,
-- the verdict is that they agree.
abbrev pub AuditsRaiseNoFalseAlarm : Type 0
AuditsRaiseNoFalseAlarm =
    (n : ℕ) (ls : List Life) (h : List Event) → n ≤ 15 → Ran n ls h → HasShortLogs (last_cluster n h) →
    (lines : _) (text : List ℕ) (x : IsAudited n lines text) → AreOfProcesses n ls (sheets_in lines) →
    EndComplete n h x.sheets → SaysAgree x.verdict

-- The same if the last sheet of each node is the whole sheet of its last process.
abbrev pub AuditsOfWholeSheetsAgree : Type 0
AuditsOfWholeSheetsAgree =
    (n : ℕ) (ls : List Life) (h : List Event) → n ≤ 15 → Ran n ls h → HasShortLogs (last_cluster n h) →
    (lines : _) (text : List ℕ) (x : IsAudited n lines text) → AreOfProcesses n ls (sheets_in lines) →
    EndInWholeSheets n ls (sheets_in lines) → SaysAgree x.verdict
