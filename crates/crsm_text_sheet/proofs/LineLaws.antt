-- Texts of the lines of a sheet have no line feed, and tell the lines apart.
use Rattle.std.proofs.Common.{◌≡◌, ℕ, List, [], ◌∷◌, ◌++◌, get_or, codes, decimal, refl, ap, sym, ◌∙◌, arith, append_assoc}
use Rattle.std.specs.List.{AllByRecursion}
use Rattle.std.proofs.lemmas.Fmt.{decimal_injective}
use Rattle.hex.specs.Hex.{encode_lower, lower_digits, IsBytes}
use Rattle.crsm_text.specs.Words.{Lacks, commas}
use Rattle.crsm_text.specs.Values.{value_text}
use Rattle.crsm_text.proofs.Commas.{members_fit, members_some}
use Rattle.crsm_text.proofs.TextLaws.{no_feed_decimal, no_feed_hex, no_feed_commas, no_feed_spaced, hex_injective, decimal_split, commas_injective}
use Rattle.crsm_text.proofs.Texts.{Lacks-value_text, value_text_is_empty}
use Rattle.crsm_text.proofs.WordsLemmas.{Lacks-test, split_unique}
use Rattle.crsm_text_sheet.specs.declared.line.SheetLine.{SheetLine}
use Rattle.crsm_text_sheet.specs.declared.line.SheetLine.TheVariants.{Entry, Open, In, Tick, Suspect}
use Rattle.crsm_text_sheet.specs.Grammar.{FitsSheetLine, sheet_line_text}
use Rattle.crsm_text_sheet.specs.Sheets.{sheet_text}

-- ---- no line feed

pub no_feed : (l : SheetLine) → FitsSheetLine l → Lacks 10 (sheet_line_text l)
no_feed (Entry b) fits = no_feed_spaced (codes "entry" ∷ encode_lower b ∷ []) (Lacks-test 10 (codes "entry") refl, (no_feed_hex b, tt))
no_feed Open fits = Lacks-test 10 (codes "open") refl
no_feed (In t a b) fits =
    let bytes : Lacks 10 (value_text b) = Lacks-value_text 10 b (omega arith) (Lacks-test 10 lower_digits refl) (Lacks-test 10 (codes "empty") refl) in
    no_feed_spaced (codes "in" ∷ decimal t ∷ decimal a ∷ value_text b ∷ [])
    (Lacks-test 10 (codes "in") refl, (no_feed_decimal t fits.reading_fits, (no_feed_decimal a fits.address_fits, (bytes, tt))))
no_feed (Tick t) fits = no_feed_spaced (codes "tick" ∷ decimal t ∷ []) (Lacks-test 10 (codes "tick") refl, (no_feed_decimal t fits, tt))
no_feed (Suspect t m) fits =
    no_feed_spaced (codes "suspect" ∷ decimal t ∷ commas m ∷ [])
    (Lacks-test 10 (codes "suspect") refl, (no_feed_decimal t fits.0, (no_feed_commas m (members_fit m fits.1), tt)))

-- ---- one line for each text

value_injective : (a b : List ℕ) → IsBytes a → IsBytes b → value_text a ≡ value_text b → a ≡ b
value_injective [] b are are_too e = sym (value_text_is_empty b e)
value_injective (x ∷ a) [] are are_too e = value_text_is_empty (x ∷ a) (sym e)
value_injective (x ∷ a) (y ∷ b) are are_too e = hex_injective (x ∷ a) (y ∷ b) are are_too e

pub line_injective : (l m : SheetLine) → FitsSheetLine l → FitsSheetLine m → sheet_line_text l ≡ sheet_line_text m → l ≡ m
line_injective (Entry b) (Entry d) fits gits e = ap (λ (x : List ℕ). Entry x) (hex_injective b d fits.are_bytes gits.are_bytes (cc))
line_injective Open Open fits gits e = refl
line_injective (In t a b) (In u c d) fits gits e =
    let s = decimal_split t u (decimal a ++ 32 ∷ value_text b) (decimal c ++ 32 ∷ value_text d) fits.reading_fits gits.reading_fits (cc) in
    let r = decimal_split a c (value_text b) (value_text d) fits.address_fits gits.address_fits s.1 in
    let reading : t ≡ u = s.0 in
    let address : a ≡ c = r.0 in
    let bytes : b ≡ d = value_injective b d fits.are_bytes gits.are_bytes r.1 in
    cc
line_injective (Tick t) (Tick u) fits gits e = ap (λ (x : ℕ). Tick x) (decimal_injective t u fits gits (cc))
line_injective (Suspect t m) (Suspect u n) fits gits e =
    let s = decimal_split t u (commas m) (commas n) fits.0 gits.0 (cc) in
    let reading : t ≡ u = s.0 in
    let members : m ≡ n = commas_injective m n (members_fit m fits.1) (members_fit n gits.1) (members_some m fits.1) (members_some n gits.1) s.1 in
    cc
line_injective l m fits gits e =
    let first : get_or (sheet_line_text l) 0 0 ≡ get_or (sheet_line_text m) 0 0 = ap (λ (x : List ℕ). get_or x 0 0) e in
    absurd (omega (arith, first))

-- ---- one list of lines for each text

first_line : (l : SheetLine) (ls : List SheetLine) → sheet_text (l ∷ ls) ≡ sheet_line_text l ++ 10 ∷ sheet_text ls
first_line l ls = append_assoc (sheet_line_text l) (10 ∷ []) (sheet_text ls)

-- a line has a text
some_text : (m : SheetLine) (ms : List SheetLine) → [] ≡ sheet_line_text m ++ 10 ∷ sheet_text ms → ⊥
some_text (Entry b) ms same = cc
some_text Open ms same = cc
some_text (In t a b) ms same = cc
some_text (Tick t) ms same = cc
some_text (Suspect t k) ms same = cc

pub sheet_injective : (ls ms : List SheetLine) → AllByRecursion FitsSheetLine ls → AllByRecursion FitsSheetLine ms → sheet_text ls ≡ sheet_text ms → ls ≡ ms
sheet_injective [] [] fit gits e = refl
sheet_injective [] (m ∷ ms) fit gits e = absurd (some_text m ms (e ∙ first_line m ms))
sheet_injective (l ∷ ls) [] fit gits e = absurd (some_text l ls (sym e ∙ first_line l ls))
sheet_injective (l ∷ ls) (m ∷ ms) fit gits e =
    let whole : sheet_line_text l ++ 10 ∷ sheet_text ls ≡ sheet_line_text m ++ 10 ∷ sheet_text ms = sym (first_line l ls) ∙ e ∙ first_line m ms in
    let s = split_unique 10 (sheet_line_text l) (sheet_line_text m) (sheet_text ls) (sheet_text ms) (no_feed l fit.0) (no_feed m gits.0) whole in
    let line : l ≡ m = line_injective l m fit.0 gits.0 s.0 in
    let rest : ls ≡ ms = sheet_injective ls ms fit.1 gits.1 s.1 in
    cc
