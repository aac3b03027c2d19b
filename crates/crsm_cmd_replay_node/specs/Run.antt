-- The effects of a replay, by how it ended.
use Rattle.std.specs.Prelude.{◌≡◌, ◌⊎◌, ℕ, ◌+◌, ◌<◌, ◌≤◌, List, [], ◌∷◌, ◌++◌, Option, Some, length}
use Rattle.std.specs.List.{AllByRecursion}
use Rattle.crsm_io.specs.Streams.{Takes, Puts, PutsPrefix, AtEnd}
use Rattle.crsm_port_lines.specs.Handling.{Text}
use Rattle.crsm_port_lines.specs.State.{IsLine}
use Rattle.crsm_port_lines.specs.declared.LineRefusal.{LineRefusal}
use Rattle.crsm_port_lines.specs.declared.InputEnd.{InputEnd}
use Rattle.crsm_text_sheet.specs.declared.line.SheetLine.{SheetLine}
use Rattle.crsm_text_sheet.specs.Grammar.{FitsSheetLine, sheet_line_text}
use Rattle.crsm_text_sheet.specs.Sheets.{sheet_text}
use Rattle.crsm_replica_rerun.specs.Sheets.{IsSheet}
use Rattle.crsm_replica_rerun.specs.Texts.{IsNodeText}
use Rattle.crsm_cmd_replay_node.specs.Causes.{cause_in}
use Rattle.crsm_cmd_replay_node.specs.Refused.{BeginsBad, IsReplayed}
use Rattle.crsm_cmd_replay_node.specs.declared.cause.SheetCause.{SheetCause}

-- In each of these the source had `before` and has `after` left, and the sink had `had` and has `has` written.

module _ (me n : ℕ) where
  -- ---- by how it ended

  -- all of a sheet was read, and its text was written
  pub record RanToEnd (before after had has : Option Text) : Type 0 where
    pub lines : List SheetLine
    pub fit : AllByRecursion FitsSheetLine lines
    pub text : Text
    pub shows : IsNodeText me n 1 lines text
    pub takes : Takes before after (sheet_text lines)
    pub ended : AtEnd after
    pub short : length (sheet_text lines) ≤ 1073741824
    pub puts : Puts had has text

  -- this line is the first that is bad, and the text of all lines before it was written
  pub record RanToBad (before after had has : Option Text) (line : ℕ) (cause : SheetCause) : Type 0 where
    pub lines : List SheetLine
    pub shown : Text
    pub is : IsReplayed me n lines shown
    pub line_is : line ≡ length lines + 1
    pub rest : Text
    pub within : length (sheet_text lines ++ rest) ≤ 1073741824
    pub takes : Takes before after (sheet_text lines ++ rest)
    pub bad : BeginsBad me n lines after cause rest
    pub puts : Puts had has shown

  -- the text of all whole lines that were taken was written
  pub record RanSoFar (before after had has : Option Text) : Type 0 where
    pub lines : List SheetLine
    pub shown : Text
    pub is : IsReplayed me n lines shown
    pub rest : Text
    pub part : IsLine rest
    pub takes : Takes before after (sheet_text lines ++ rest)
    pub puts : Puts had has shown

  -- the same, where 1,073,741,824 bytes were taken and then one more
  pub record RanTooLong (before after had has : Option Text) : Type 0 where
    pub lines : List SheetLine
    pub shown : Text
    pub is : IsReplayed me n lines shown
    pub rest : Text
    pub part : IsLine rest
    pub long : length (sheet_text lines ++ rest) ≡ 1073741824
    pub more : ℕ
    pub takes : Takes before after (sheet_text lines ++ (rest ++ more ∷ []))
    pub puts : Puts had has shown

  -- A prefix of the text of the lines was written, or, at the end of the input, a prefix of the text of the sheet.
  pub data WrotePart (lines : List SheetLine) (shown rest : Text) (after had has : Option Text) : Type 0 where
    of_lines : PutsPrefix had has shown → WrotePart lines shown rest after had has
    of_all : (text : Text) → IsNodeText me n 1 lines text → rest ≡ [] → AtEnd after → PutsPrefix had has text → WrotePart lines shown rest after had has

  -- a part of the output was written
  pub record RanPartly (before after had has : Option Text) : Type 0 where
    pub lines : List SheetLine
    pub shown : Text
    pub is : IsReplayed me n lines shown
    pub rest : Text
    pub takes : Takes before after (sheet_text lines ++ rest)
    pub wrote : WrotePart lines shown rest after had has

  -- The effect of a replay. It is shut, as the words below are: a proof opens it where it needs its content.
  unfoldable pub Ran : InputEnd SheetCause → Option Text → Option Text → Option Text → Option Text → Type 0
  Ran InputEnd.Done before after had has = RanToEnd before after had has
  Ran (InputEnd.BadLine line why) before after had has = RanToBad before after had has line (cause_in why)
  Ran InputEnd.ReadFault before after had has = RanSoFar before after had has
  Ran InputEnd.WriteFault before after had has = RanPartly before after had has
  Ran InputEnd.NoMemory before after had has = RanPartly before after had has
  Ran InputEnd.InputTooLong before after had has = RanTooLong before after had has

  -- ---- answers that are exact

  -- no line is too long
  abbrev pub AreShort : List SheetLine → Type 0
  AreShort lines = AllByRecursion (λ l. length (sheet_line_text l) ≤ 16777216) lines

  -- for a sheet whose bodies fit, within the limits, whose text is the rest of the input
  abbrev pub WhereSheet : Option Text → Type 0 → Type 0
  WhereSheet left P =
      (lines : List SheetLine) → AllByRecursion FitsSheetLine lines → AreShort lines → IsSheet me n lines →
      left ≡ Some (sheet_text lines) → length (sheet_text lines) ≤ 1073741824 → P

  -- for good lines and a bad one behind them, within the limit
  abbrev pub WhereBad : Option Text → (ℕ → SheetCause → Type 0) → Type 0
  WhereBad left P =
      (lines : List SheetLine) (shown text more : Text) (cause : SheetCause) → IsReplayed me n lines shown → AreShort lines →
      left ≡ Some (sheet_text lines ++ (text ++ more)) → BeginsBad me n lines (Some more) cause text →
      length (sheet_text lines ++ text) ≤ 1073741824 → P (length lines + 1) cause

  -- for good lines up to the limit, with a part of a line, and more bytes behind it
  abbrev pub WhereTooLong : Option Text → Type 0 → Type 0
  WhereTooLong left P =
      (lines : List SheetLine) (shown rest more : Text) → IsReplayed me n lines shown → AreShort lines → IsLine rest →
      length (sheet_text lines ++ rest) ≡ 1073741824 → 0 < length more → left ≡ Some (sheet_text lines ++ (rest ++ more)) → P

-- the line is named as bad for this cause
pub record Names (line : ℕ) (cause : SheetCause) (result : InputEnd SheetCause) : Type 0 where
  pub bad : LineRefusal SheetCause
  pub told : cause_in bad ≡ cause
  pub is : result ≡ InputEnd.BadLine line bad

-- refused for this line and cause, unless memory ran out
abbrev pub IsRefused : ℕ → SheetCause → InputEnd SheetCause → Type 0
IsRefused line cause result = Names line cause result ⊎ (result ≡ InputEnd.NoMemory)
