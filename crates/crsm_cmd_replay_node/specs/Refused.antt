-- The lines that are refused after a part of a sheet, and their causes.
use Rattle.std.specs.Prelude.{◌≡◌, ℕ, List, [], ◌∷◌, ◌++◌, Option, codes}
use Rattle.std.specs.List.{AllByRecursion}
use Rattle.crsm_io.specs.Streams.{AtEnd}
use Rattle.crsm_text.specs.Words.{Lacks}
use Rattle.crsm_port_lines.specs.Handling.{Text}
use Rattle.crsm_port_lines.specs.Run.{LongLine}
use Rattle.crsm_spec.specs.Draft.{Draft}
use Rattle.crsm_text_sheet.specs.declared.line.SheetLine.{SheetLine}
use Rattle.crsm_text_sheet.specs.Grammar.{FitsSheetLine, sheet_line_text}
use Rattle.crsm_replica_rerun.specs.Replaying.{IsNoSheet}
use Rattle.crsm_replica_rerun.specs.Sheets.{BeginASheet, HoldBadLog, LeadTo}
use Rattle.crsm_replica_rerun.specs.Texts.{shown_text}
use Rattle.crsm_cmd_replay_node.specs.declared.cause.SheetCause.{SheetCause}

-- The lines are bodies alone or a sheet of replica me, in a cluster that began with n, and this is the text of their
-- steps.
pub record IsReplayed (me n : ℕ) (lines : List SheetLine) (shown : Text) : Type 0 where
  pub fit : AllByRecursion FitsSheetLine lines
  pub steps : List Draft
  pub leads : LeadTo me n lines steps
  pub shown_is : shown ≡ shown_text 1 lines steps

-- no sheet has this line after these lines
abbrev pub NoSheetGoesOn : List SheetLine → Text → Type 0
NoSheetGoesOn lines text = (line : SheetLine) → FitsSheetLine line → text ≡ sheet_line_text line → BeginASheet (lines ++ line ∷ []) → ⊥

-- this line is refused after these lines: no sheet continues with it, or it is `open` and the bodies before it are not
-- a log
abbrev pub Refused : (me n : ℕ) → List SheetLine → Text → SheetCause → Type 0
Refused me n lines text SheetCause.Unreadable = NoSheetGoesOn lines text
Refused me n lines text (SheetCause.BadLog entry why) = (text ≡ codes "open") × HoldBadLog me n lines entry why

-- a whole line that is refused
pub record BadLine (me n : ℕ) (lines : List SheetLine) (cause : SheetCause) (text : Text) : Type 0 where
  pub line : Text
  pub rest : Text
  pub text_is : text ≡ line ++ 10 ∷ rest
  pub lacks : Lacks 10 line
  pub refused : Refused me n lines line cause

-- the input ends within a line, or where the lines are no sheet yet
pub record CutLine (lines : List SheetLine) (left : Option Text) (text : Text) : Type 0 where
  pub lacks : Lacks 10 text
  pub cut : text ≡ [] → IsNoSheet lines
  pub ended : AtEnd left

-- The input continues, after these lines, with a bad line, for this cause. `left` is the rest of the input.
pub data BeginsBad (me n : ℕ) (lines : List SheetLine) (left : Option Text) (cause : SheetCause) (text : Text) : Type 0 where
  bad_line : BadLine me n lines cause text → BeginsBad me n lines left cause text
  long_line : cause ≡ SheetCause.Unreadable → LongLine text → BeginsBad me n lines left cause text
  cut_line : cause ≡ SheetCause.Unreadable → CutLine lines left text → BeginsBad me n lines left cause text
