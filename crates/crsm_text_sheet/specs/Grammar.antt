-- The lines of a sheet, each without its line feed, and the values that have a line.
use Rattle.std.specs.Prelude.{◌≢◌, ℕ, ◌^◌, ◌<◌, ◌≤◌, List, [], ◌∷◌, length, codes, decimal}
use Rattle.hex.specs.Hex.{encode_lower, IsBytes}
use Rattle.crsm_base.specs.Members.{IsMembers}
use Rattle.crsm_text.specs.Words.{spaced, named, commas}
use Rattle.crsm_text.specs.Values.{value_text}
use Rattle.crsm_text_sheet.specs.declared.line.SheetLine.{SheetLine}
use Rattle.crsm_text_sheet.specs.declared.line.SheetLine.TheVariants.{Entry, Open, In, Tick, Suspect}

abbrev pub sheet_line_text : SheetLine → List ℕ
sheet_line_text (Entry bytes) = spaced (codes "entry" ∷ encode_lower bytes ∷ [])
sheet_line_text Open = codes "open"
sheet_line_text (In reading address bytes) = spaced (codes "in" ∷ decimal reading ∷ decimal address ∷ value_text bytes ∷ [])
sheet_line_text (Tick reading) = named (codes "tick") (reading ∷ [])
sheet_line_text (Suspect reading members) = spaced (codes "suspect" ∷ decimal reading ∷ commas members ∷ [])

-- a log body has one byte or more
pub record FitsBody (bytes : List ℕ) : Type 0 where
  pub are_bytes : IsBytes bytes
  pub some : 1 ≤ length bytes

-- the bytes of a turn's input: up to the maximum length of a datagram
pub record FitsIn (reading address : ℕ) (bytes : List ℕ) : Type 0 where
  pub reading_fits : reading < 2 ^ 64
  pub address_fits : address < 2 ^ 64
  pub are_bytes : IsBytes bytes
  pub most : length bytes ≤ 8192

-- the line has a text
abbrev pub FitsSheetLine : SheetLine → Type 0
FitsSheetLine (Entry bytes) = FitsBody bytes
FitsSheetLine Open = Unit {0}
FitsSheetLine (In reading address bytes) = FitsIn reading address bytes
FitsSheetLine (Tick reading) = reading < 2 ^ 64
FitsSheetLine (Suspect reading members) = (reading < 2 ^ 64) × IsMembers members

-- the text is that of no line
abbrev pub Unreadable : List ℕ → Type 0
Unreadable text = (l : SheetLine) → FitsSheetLine l → text ≢ sheet_line_text l
