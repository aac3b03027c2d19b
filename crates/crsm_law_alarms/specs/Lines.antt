-- The lines of sheets as the processes of nodes wrote them.
use Rattle.std.specs.Prelude.{◌≡◌, ◌≢◌, ℕ, ◌<◌, List, [], Some, slice_get}
use Rattle.crsm_spec.specs.Lists.{Among, last_of}
use Rattle.crsm_spec_process.specs.Lives.{Life, kept_turns}
use Rattle.crsm_ledger.specs.Recovered.{AreKept}
use Rattle.crsm_text_sheet.specs.Sheets.{sheet_of}
use Rattle.crsm_text_sheet.specs.declared.line.SheetLine.{SheetLine}
use Rattle.crsm_law_lives.specs.Events.{lives_of}
use Rattle.crsm_law_nodes.specs.Sheets.{IsSheetOf}
use Rattle.crsm_audit.specs.Sheets.{NodeSheet}

-- the lines of each node's sheet are those of one of these processes: the bodies that it found, and all turns that it
-- kept or the first of them
abbrev pub AreOfProcesses : ℕ → List Life → List NodeSheet → Type 0
AreOfProcesses n ls nodes =
    (node : NodeSheet) → Among nodes node → (l : Life) × Among ls l × (l.me ≡ node.me) × IsSheetOf n l node.lines

-- the lines are the sheet of a process: the bodies that it found, and all turns that it kept
pub record IsWholeSheetOf (n : ℕ) (l : Life) (lines : List SheetLine) : Type 0 where
  pub bodies : List (List ℕ)
  pub kept : AreKept l.me n [] bodies l.found
  pub is : lines ≡ sheet_of bodies (kept_turns l.groups)

-- this is the last sheet of node k
pub record IsLastSheet (nodes : List NodeSheet) (k place : ℕ) (node : NodeSheet) : Type 0 where
  pub there : slice_get nodes place ≡ Some node
  pub me : node.me ≡ k
  pub last : (j : ℕ) (other : NodeSheet) → place < j → slice_get nodes j ≡ Some other → other.me ≢ k

-- the last sheet of each node is the whole sheet of its last process
abbrev pub EndInWholeSheets : ℕ → List Life → List NodeSheet → Type 0
EndInWholeSheets n ls nodes =
    (k place : ℕ) (node : NodeSheet) → IsLastSheet nodes k place node →
    (l : Life) × (last_of (lives_of k ls) ≡ Some l) × IsWholeSheetOf n l node.lines
