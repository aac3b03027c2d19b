-- The lines of a sheet in order, and its whole text.
use Rattle.std.specs.Prelude.{ℕ, List, [], ◌∷◌, ◌++◌, map}
use Rattle.std.specs.List.{flat_map}
use Rattle.crsm_spec.specs.Node.{Turn}
use Rattle.crsm_text_sheet.specs.declared.line.SheetLine.{SheetLine}
use Rattle.crsm_text_sheet.specs.declared.line.SheetLine.TheVariants.{Entry, Open, In, Tick, Suspect}
use Rattle.crsm_text_sheet.specs.Grammar.{sheet_line_text}

-- the line of a log body that the node found
abbrev pub entry_line : List ℕ → SheetLine
entry_line body = Entry body

-- the line of a turn with its clock reading
abbrev pub turn_line : Turn × ℕ → SheetLine
turn_line (Turn.In address bytes, reading) = In reading address bytes
turn_line (Turn.Tick, reading) = Tick reading
turn_line (Turn.Suspect members, reading) = Suspect reading members

-- The sheet of a node that found these log bodies and made these turns.
unfoldable pub sheet_of : List (List ℕ) → List (Turn × ℕ) → List SheetLine
sheet_of bodies turns = map entry_line bodies ++ Open ∷ map turn_line turns

-- the text of the lines, each with its line feed
abbrev pub sheet_text : List SheetLine → List ℕ
sheet_text lines = flat_map (λ l. sheet_line_text l ++ 10 ∷ []) lines
