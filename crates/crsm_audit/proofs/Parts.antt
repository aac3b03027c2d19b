-- The sheets of lines, where one sheet follows others.
use Rattle.std.proofs.Common.{◌≡◌, ℕ, ◌+◌, List, [], ◌∷◌, ◌++◌, map, length, refl, ◌∙◌, ap, arith}
use Rattle.crsm_law_sheets.specs.Sheets.{Sheet}
use Rattle.crsm_text_sheet.specs.declared.line.SheetLine.{SheetLine}
use Rattle.crsm_audit.specs.Accounts.{AccountStands, AccountsStand}
use Rattle.crsm_audit.specs.declared.account.Account.{Account}
use Rattle.crsm_audit.specs.Sheets.{AreSheetsOf, IsSheetOf, NodeSheet, own_lines, sheets_from, sheets_in}
use Rattle.crsm_audit.specs.declared.line.AuditLine.{AuditLine}
use Rattle.crsm_audit.specs.declared.line.AuditLine.TheVariants as lines

pub own_first : (xs : List SheetLine) (ls : List AuditLine) → own_lines (map lines.Sheet xs ++ ls) ≡ xs ++ own_lines ls
unfolding own_lines
own_first [] ls = refl
own_first (x ∷ xs) ls = ap (λ (ys : List SheetLine). x ∷ ys) (own_first xs ls)

own_all : (xs : List SheetLine) → own_lines (map lines.Sheet xs) ≡ xs
unfolding own_lines
own_all [] = refl
own_all (x ∷ xs) = ap (λ (ys : List SheetLine). x ∷ ys) (own_all xs)

own_cut : (ls rest : List AuditLine) (me : ℕ) → own_lines (ls ++ lines.Node me ∷ rest) ≡ own_lines ls
unfolding own_lines
own_cut [] rest me = refl
own_cut (lines.Node k ∷ ls) rest me = refl
own_cut (lines.Sheet l ∷ ls) rest me = ap (λ (ys : List SheetLine). l ∷ ys) (own_cut ls rest me)

no_more : (at : ℕ) (xs : List SheetLine) → sheets_from at (map lines.Sheet xs) ≡ []
unfolding sheets_from
no_more at [] = refl
no_more at (x ∷ xs) = no_more (at + 1) xs

sheet_at : ℕ → ℕ → List SheetLine → NodeSheet
sheet_at me first ls = record { me = me; first = first; lines = ls }

-- what comes behind a line that names a node is another sheet
parts_at : (at k : ℕ) (before rest : List AuditLine) (me : ℕ) → k ≡ at + length before + 1
    → sheets_from at (before ++ lines.Node me ∷ rest) ≡ sheets_from at before ++ sheet_at me k (own_lines rest) ∷ sheets_from k rest
unfolding sheets_from sheet_at
parts_at at k [] rest me e =
    let same : at + 1 ≡ k = omega (arith, e) in
    ap (λ (i : ℕ). record { me = me; first = i; lines = own_lines rest } ∷ sheets_from i rest) same
parts_at at k (lines.Sheet l ∷ before) rest me e = parts_at (at + 1) k before rest me (omega (arith, e))
parts_at at k (lines.Node j ∷ before) rest me e =
    ap (λ (ys : List SheetLine). record { me = j; first = at + 1; lines = ys } ∷ sheets_from (at + 1) (before ++ lines.Node me ∷ rest)) (own_cut before rest me)
    ∙ ap (λ (nodes : List NodeSheet). record { me = j; first = at + 1; lines = own_lines before } ∷ nodes) (parts_at (at + 1) k before rest me (omega (arith, e)))

pub parts : (before rest : List AuditLine) (me : ℕ)
    → sheets_in (before ++ lines.Node me ∷ rest) ≡ sheets_in before ++ record { me = me; first = length before + 2; lines = own_lines rest } ∷ sheets_from (length before + 2) rest
unfolding sheet_at
parts before rest me = parts_at 1 (length before + 2) before rest me (omega arith)

-- the sheets up to the current one
pub with_last : (before : List AuditLine) (me : ℕ) (own : List SheetLine)
    → sheets_in (before ++ lines.Node me ∷ map lines.Sheet own) ≡ sheets_in before ++ record { me = me; first = length before + 2; lines = own } ∷ []
with_last before me own =
    parts before (map lines.Sheet own) me
    ∙ ap (λ (ys : List SheetLine). sheets_in before ++ record { me = me; first = length before + 2; lines = ys } ∷ sheets_from (length before + 2) (map lines.Sheet own)) (own_all own)
    ∙ ap (λ (nodes : List NodeSheet). sheets_in before ++ record { me = me; first = length before + 2; lines = own } ∷ nodes) (no_more (length before + 2) own)

-- ---- one sheet more

pub sheets_more : (n : ℕ) (nodes : List NodeSheet) (sheets : List Sheet) (node : NodeSheet) (s : Sheet) → AreSheetsOf n nodes sheets → IsSheetOf n node s
    → AreSheetsOf n (nodes ++ node ∷ []) (sheets ++ s ∷ [])
sheets_more n [] [] node s h is = (is, tt)
sheets_more n [] (t ∷ sheets) node s h is = absurd h
sheets_more n (m ∷ nodes) [] node s h is = absurd h
sheets_more n (m ∷ nodes) (t ∷ sheets) node s h is = (h.0, sheets_more n nodes sheets node s h.1 is)

pub accounts_more : (n : ℕ) (done : List Account) (sheets : List Sheet) (a : Account) (s : Sheet) → AccountsStand n done sheets → AccountStands n a s
    → AccountsStand n (done ++ a ∷ []) (sheets ++ s ∷ [])
accounts_more n [] [] a s h is = (is, tt)
accounts_more n [] (t ∷ sheets) a s h is = absurd h
accounts_more n (b ∷ done) [] a s h is = absurd h
accounts_more n (b ∷ done) (t ∷ sheets) a s h is = (h.0, accounts_more n done sheets a s h.1 is)

-- of sheets one behind another, each is a sheet
pub among : (n : ℕ) (before after : List NodeSheet) (node : NodeSheet) (sheets : List Sheet) → AreSheetsOf n (before ++ node ∷ after) sheets → (s : Sheet) × IsSheetOf n node s
among n [] after node [] h = absurd h
among n [] after node (s ∷ sheets) h = (s, h.0)
among n (b ∷ before) after node [] h = absurd h
among n (b ∷ before) after node (s ∷ sheets) h = among n before after node sheets h.1
