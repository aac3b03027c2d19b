-- The text of the lines of an audit, and their order.
use Rattle.std.specs.Prelude.{◌≡◌, ◌≢◌, ℕ, ◌<◌, List, [], ◌∷◌, ◌++◌, map, codes, Option, None, Some}
use Rattle.std.specs.List.{flat_map}
use Rattle.std.specs.Option.{option_and_then}
use Rattle.crsm_text.specs.Words.{named}
use Rattle.crsm_spec.specs.Node.{Turn}
use Rattle.crsm_text_sheet.specs.declared.line.SheetLine.{SheetLine}
use Rattle.crsm_text_sheet.specs.declared.line.SheetLine.TheVariants as lines
use Rattle.crsm_text_sheet.specs.Grammar.{FitsSheetLine, sheet_line_text}
use Rattle.crsm_text_sheet.specs.Sheets.{sheet_of}
use Rattle.crsm_audit.specs.declared.line.AuditLine.{AuditLine}
use Rattle.crsm_audit.specs.declared.line.AuditLine.TheVariants.{Node, Sheet}
use Rattle.crsm_audit.specs.declared.line.Progress.{Progress}
use Rattle.crsm_audit.specs.declared.line.Progress.TheVariants.{Finding, Running}

abbrev pub line_text : AuditLine → List ℕ
line_text (Node me) = named (codes "node") (me ∷ [])
line_text (Sheet line) = sheet_line_text line

-- which lines can be written
abbrev pub FitsLine : AuditLine → Type 0
FitsLine (Node me) = me < 15
FitsLine (Sheet line) = FitsSheetLine line

-- ---- what an audit is

-- a sheet behind the line that names its node
pub record NamedSheet : Type 0 where
  pub me : ℕ
  pub bodies : List (List ℕ)
  pub turns : List (Turn × ℕ)

abbrev pub lines_of : NamedSheet → List AuditLine
lines_of s = Node s.me ∷ map Sheet (sheet_of s.bodies s.turns)

-- An audit is sheets of nodes, one behind another, and there is one at least.
pub record IsAnAudit (ls : List AuditLine) : Type 0 where
  pub named : List NamedSheet
  pub some : named ≢ []
  pub is : ls ≡ flat_map lines_of named

-- some audit begins with these lines
pub record BeginAnAudit (ls : List AuditLine) : Type 0 where
  pub named : List NamedSheet
  pub more : List AuditLine
  pub is : ls ++ more ≡ flat_map lines_of named

-- ---- the progress of the current sheet

-- behind a line of it, if it may have the line there: bodies, then `open`, then turns
abbrev pub behind : Progress → SheetLine → Option Progress
behind Finding (lines.Entry body) = Some Finding
behind Finding lines.Open = Some Running
behind Running (lines.In reading address bytes) = Some Running
behind Running (lines.Tick reading) = Some Running
behind Running (lines.Suspect reading members) = Some Running
behind _ _ = None

-- behind a line of an audit: a sheet may begin first, and where the one before it has its `open`
abbrev pub follows : Progress → AuditLine → Option Progress
follows Finding (Node me) = None
follows _ (Node me) = Some Finding
follows progress (Sheet line) = behind progress line

-- behind lines
unfoldable pub progress_after : Progress → List AuditLine → Option Progress
progress_after p [] = Some p
progress_after p (l ∷ ls) = option_and_then (λ q. progress_after q ls) (follows p l)
