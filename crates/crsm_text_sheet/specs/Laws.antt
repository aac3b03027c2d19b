-- Laws of sheet texts: different sheets have different texts.
use Rattle.std.specs.Prelude.{◌≡◌, ℕ, List}
use Rattle.std.specs.List.{AllByRecursion}
use Rattle.crsm_text.specs.Words.{Lacks}
use Rattle.crsm_spec.specs.Node.{Turn}
use Rattle.crsm_text_sheet.specs.declared.line.SheetLine.{SheetLine}
use Rattle.crsm_text_sheet.specs.Grammar.{FitsSheetLine, sheet_line_text}
use Rattle.crsm_text_sheet.specs.Sheets.{sheet_of, sheet_text}

-- two lines with one text are one line
abbrev pub LinesHaveOneText : Type 0
LinesHaveOneText = (l m : SheetLine) → FitsSheetLine l → FitsSheetLine m → sheet_line_text l ≡ sheet_line_text m → l ≡ m

-- no line's text has a line feed
abbrev pub LinesHaveNoFeed : Type 0
LinesHaveNoFeed = (l : SheetLine) → FitsSheetLine l → Lacks 10 (sheet_line_text l)

-- two lists of lines with one text are one list
abbrev pub TextsHaveOneSheet : Type 0
TextsHaveOneSheet =
    (ls ms : List SheetLine) → AllByRecursion FitsSheetLine ls → AllByRecursion FitsSheetLine ms → sheet_text ls ≡ sheet_text ms → ls ≡ ms

-- two equal sheets are of the same log bodies and turns
abbrev pub SheetsTellTurns : Type 0
SheetsTellTurns =
    (bodies others : List (List ℕ)) (turns later : List (Turn × ℕ)) → sheet_of bodies turns ≡ sheet_of others later → (bodies ≡ others) × (turns ≡ later)
