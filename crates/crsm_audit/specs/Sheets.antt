-- The sheets of nodes in the lines of an audit, and the verdict on them.
use Rattle.std.specs.Prelude.{◌≡◌, ℕ, ◌+◌, List, [], ◌∷◌, ◌++◌, length, map}
use Rattle.crsm_ledger.specs.Recovered.{IsBadAt}
use Rattle.crsm_law_sheets.specs.Laws.{AreSafe}
use Rattle.crsm_law_sheets.specs.Sheets.{Sheet, one_list}
use Rattle.crsm_replica_rerun.specs.Sheets.{IsSheet}
use Rattle.crsm_text_sheet.specs.declared.line.SheetLine.{SheetLine}
use Rattle.crsm_text_sheet.specs.declared.line.SheetLine.TheVariants.{Open}
use Rattle.crsm_text_sheet.specs.Sheets.{entry_line}
use Rattle.crsm_audit.specs.Verdict.{IsVerdict}
use Rattle.crsm_audit.specs.declared.verdict.Verdict.{Verdict}
use Rattle.crsm_audit.specs.Lists.{places_of}
use Rattle.crsm_audit.specs.Texts.{verdict_text}
use Rattle.crsm_audit.specs.declared.line.AuditLine.{AuditLine}
use Rattle.crsm_audit.specs.declared.line.AuditLine.TheVariants as lines

-- ---- sheets

-- the sheet of a node, as its lines; `first` is the number of the first one
pub record NodeSheet : Type 0 where
  pub me : ℕ
  pub first : ℕ
  pub lines : List SheetLine

-- the lines up to the next one that names a node
unfoldable pub own_lines : List AuditLine → List SheetLine
own_lines [] = []
own_lines (lines.Node me ∷ ls) = []
own_lines (lines.Sheet l ∷ ls) = l ∷ own_lines ls

-- The sheets of these lines, of which the first has the number `at`: one after each line that names a node.
unfoldable pub sheets_from : ℕ → List AuditLine → List NodeSheet
sheets_from at [] = []
sheets_from at (lines.Node me ∷ ls) = record { me = me; first = at + 1; lines = own_lines ls } ∷ sheets_from (at + 1) ls
sheets_from at (lines.Sheet l ∷ ls) = sheets_from (at + 1) ls

abbrev pub sheets_in : List AuditLine → List NodeSheet
sheets_in ls = sheets_from 1 ls

-- The node's lines are a sheet in a cluster that began with n replicas, and `s` is what it says.
pub record IsSheetOf (n : ℕ) (node : NodeSheet) (s : Sheet) : Type 0 where
  pub sheet : IsSheet node.me n node.lines
  pub is : s ≡ record { me = node.me; opened = node.first + length sheet.bodies; found = sheet.log; turns = sheet.turns }

-- each of these at its place
abbrev pub AreSheetsOf : ℕ → List NodeSheet → List Sheet → Type 0
AreSheetsOf n [] [] = Unit {0}
AreSheetsOf n (node ∷ nodes) (s ∷ sheets) = IsSheetOf n node s × AreSheetsOf n nodes sheets
AreSheetsOf n [] (s ∷ sheets) = ⊥
AreSheetsOf n (node ∷ nodes) [] = ⊥

-- ---- what they come to

-- where the verdict is that the sheets agree
abbrev pub WhereAgreed : Verdict → Type 0 → Type 0
WhereAgreed (Verdict.Agree count) P = P
WhereAgreed _ P = Unit {0}

-- The text is that of the verdict on the sheets, each of which is replayed, and names the entries of their one list where
-- they agree. Sheets that agree are safe.
pub record IsAudited (n : ℕ) (ls : List AuditLine) (text : List ℕ) : Type 0 where
  pub sheets : List Sheet
  pub are : AreSheetsOf n (sheets_in ls) sheets
  pub verdict : Verdict
  pub is : IsVerdict n sheets verdict
  pub safe : WhereAgreed verdict (AreSafe n sheets)
  pub text_is : text ≡ verdict_text (places_of (one_list n sheets)) verdict

-- The log of a sheet is bad, those of the sheets before it are not: this body is the first bad one, for this reason.
pub record HoldBadLog (n : ℕ) (ls : List AuditLine) (entry why : ℕ) : Type 0 where
  pub before : List AuditLine
  pub sheets : List Sheet
  pub are : AreSheetsOf n (sheets_in before) sheets
  pub me : ℕ
  pub bodies : List (List ℕ)
  pub more : List AuditLine
  pub is : ls ≡ before ++ lines.Node me ∷ (map lines.Sheet (map entry_line bodies ++ Open ∷ []) ++ more)
  pub bad : IsBadAt me n bodies entry why
