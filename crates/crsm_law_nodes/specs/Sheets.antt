-- Sheets of a cluster's nodes, and their replays.
use Rattle.std.specs.Prelude.{◌≡◌, ℕ, ◌≤◌, List, [], ◌++◌}
use Rattle.crsm_spec.specs.Lists.{Among, IsPrefixOf}
use Rattle.crsm_spec.specs.Draft.{Draft}
use Rattle.crsm_spec.specs.Node.{Turn}
use Rattle.crsm_ledger.specs.Recovered.{AreKept}
use Rattle.crsm_spec_process.specs.Lives.{Life, kept_turns}
use Rattle.crsm_text_sheet.specs.Sheets.{sheet_of}
use Rattle.crsm_text_sheet.specs.declared.line.SheetLine.{SheetLine}
use Rattle.crsm_replica_rerun.specs.Texts.{IsNodeText, shown_text}
use Rattle.crsm_law_cluster.specs.Clusters.{Event}
use Rattle.crsm_law_cluster.specs.Histories.{last_cluster}
use Rattle.crsm_law_cluster.specs.HistoryLaws.{HasShortLogs}
use Rattle.crsm_law_lives.specs.Premises.{Ran}
use Rattle.crsm_law_lives.specs.Laws.{IsRightStep}

-- The lines are the sheet of a process: the bodies that it found, and all turns that it kept or the first of them.
pub record IsSheetOf (n : ℕ) (l : Life) (lines : List SheetLine) : Type 0 where
  pub bodies : List (List ℕ)
  pub turns : List (Turn × ℕ)
  pub kept : AreKept l.me n [] bodies l.found
  pub prefix : IsPrefixOf turns (kept_turns l.groups)
  pub is : lines ≡ sheet_of bodies turns

-- The text is that of these steps, all of them right, and of a final line.
pub record ShowsRight (n : ℕ) (h : List Event) (me first : ℕ) (lines : List SheetLine) (text : List ℕ) : Type 0 where
  pub steps : List Draft
  pub final : List ℕ
  pub is : text ≡ shown_text first lines steps ++ final
  pub right : (x : Draft) → Among steps x → IsRightStep n h me x

-- The replay of the sheet of any process of a cluster's nodes is right.
abbrev pub SheetsAreRight : Type 0
SheetsAreRight =
    (n : ℕ) (ls : List Life) (h : List Event) → n ≤ 15 → Ran n ls h → HasShortLogs (last_cluster n h) →
    (l : Life) → Among ls l → (lines : List SheetLine) → IsSheetOf n l lines →
    (first : ℕ) (text : List ℕ) → IsNodeText l.me n first lines text → ShowsRight n h l.me first lines text
