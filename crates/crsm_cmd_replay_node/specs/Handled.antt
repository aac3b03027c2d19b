-- The effect of a replay on the lines of an input.
use Rattle.std.specs.Prelude.{◌≡◌, ℕ, List, [], ◌∷◌, ◌++◌, map}
use Rattle.crsm_port_lines.specs.Handling.{Handling, Text}
use Rattle.crsm_port_lines.specs.declared.Stop.{Stop}
use Rattle.crsm_text_sheet.specs.declared.line.SheetLine.{SheetLine}
use Rattle.crsm_text_sheet.specs.declared.line.SheetLine.TheVariants.{Open}
use Rattle.crsm_text_sheet.specs.Grammar.{Unreadable, sheet_line_text}
use Rattle.crsm_replica_rerun.specs.Replaying.{IsNoSheet, RerunStands}
use Rattle.crsm_replica_rerun.specs.Sheets.{BeginASheet, HoldBadLog}
use Rattle.crsm_replica_rerun.specs.Texts.{IsNodeText}
use Rattle.crsm_cmd_replay_node.specs.Refused.{IsReplayed, Refused}
use Rattle.crsm_cmd_replay_node.specs.declared.cause.SheetCause.{SheetCause}
use Rattle.crsm_cmd_replay_node.specs.declared.handling.SheetReplay.{SheetReplay}

-- the text is not a line of a sheet, or memory ran out
abbrev pub StopsUnread : Stop SheetCause → Text → Type 0
StopsUnread (Stop.Refused cause) text = (cause ≡ SheetCause.Unreadable) × Unreadable text
StopsUnread Stop.NoMemory text = Unit {0}

-- behind these lines a line is refused for this cause
abbrev pub RefusedLine : (me n : ℕ) → List SheetLine → SheetLine → SheetCause → Type 0
RefusedLine me n lines line SheetCause.Unreadable = BeginASheet (lines ++ line ∷ []) → ⊥
RefusedLine me n lines line (SheetCause.BadLog entry why) = (line ≡ Open) × HoldBadLog me n lines entry why

-- it is refused, and the text stands; or memory ran out, and a prefix of it does
abbrev pub StopsLine : (me n : ℕ) → List SheetLine → SheetLine → Text → Text → Stop SheetCause → Type 0
StopsLine me n lines line before after (Stop.Refused cause) = RefusedLine me n lines line cause × (after ≡ before)
StopsLine me n lines line before after Stop.NoMemory = (lost : Text) × (before ≡ after ++ lost)

-- ---- the lines of an input

-- the texts are those of these lines, and this is the text of their steps
pub record Spells (me n : ℕ) (texts : List Text) (shown : Text) : Type 0 where
  pub lines : List SheetLine
  pub texts_are : texts ≡ map sheet_line_text lines
  pub is : IsReplayed me n lines shown

-- the replay stands for the lines of these texts
pub record StandsBehind (me n : ℕ) (replay : SheetReplay) (texts : List Text) (shown : Text) : Type 0 where
  pub spells : Spells me n texts shown
  pub stands : RerunStands me n 1 replay.rerun spells.lines spells.is.steps

pub record RefusedBehind (me n : ℕ) (texts : List Text) (shown : Text) (cause : SheetCause) (text : Text) : Type 0 where
  pub spells : Spells me n texts shown
  pub refused : Refused me n spells.lines text cause

-- the text of the end makes the text of the sheet whole
pub record EndsBehind (me n : ℕ) (texts : List Text) (shown last : Text) : Type 0 where
  pub spells : Spells me n texts shown
  pub whole : IsNodeText me n 1 spells.lines (shown ++ last)

-- an input may not end before `open`
pub record NoEnd (me n : ℕ) (texts : List Text) (shown : Text) (cause : SheetCause) : Type 0 where
  pub spells : Spells me n texts shown
  pub no_sheet : IsNoSheet spells.lines
  pub unreadable : cause ≡ SheetCause.Unreadable

abbrev pub sheet_of_node : (me n : ℕ) → Handling SheetReplay SheetCause
sheet_of_node me n = record {
  after = StandsBehind me n;
  refuses = RefusedBehind me n;
  ends = EndsBehind me n;
  refuses_end = NoEnd me n;
}
