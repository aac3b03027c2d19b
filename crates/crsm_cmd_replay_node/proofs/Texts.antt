-- The texts of the lines of a sheet.
use Rattle.std.proofs.Common.{◌≡◌, ℕ, List, [], ◌∷◌, ◌++◌, map, length, refl, ap, sym, ◌∙◌}
use Rattle.std.specs.List.{AllByRecursion}
use Rattle.std.proofs.lemmas.List.{length-map}
use Rattle.crsm_port_lines.specs.Handling.{Text}
use Rattle.crsm_port_lines.specs.State.{IsLine, ended, read_text}
use Rattle.crsm_text_sheet.specs.declared.line.SheetLine.{SheetLine}
use Rattle.crsm_text_sheet.specs.Grammar.{FitsSheetLine, sheet_line_text}
use Rattle.crsm_text_sheet.specs.Laws.{LinesHaveNoFeed, LinesHaveOneText}
use Rattle.crsm_text_sheet.specs.Sheets.{sheet_text}
use Rattle.crsm_cmd_replay_node.specs.Run.{AreShort}

-- ---- as one text

pub read_is : (lines : List SheetLine) → read_text (map sheet_line_text lines) ≡ sheet_text lines
read_is [] = refl
read_is (l ∷ lines) = ap (λ (y : Text). ended (sheet_line_text l) ++ y) (read_is lines)

pub count : (lines : List SheetLine) → length (map sheet_line_text lines) ≡ length lines
count lines = length-map lines sheet_line_text

pub are_lines : LinesHaveNoFeed → (me n : ℕ) (lines : List SheetLine) → AllByRecursion FitsSheetLine lines → AreShort me n lines → AllByRecursion IsLine (map sheet_line_text lines)
are_lines law me n [] fit short = tt
are_lines law me n (l ∷ lines) fit short = (record { lacks = law l fit.0; short = short.0 }, are_lines law me n lines fit.1 short.1)

-- ---- one line more

pub texts_push : (lines : List SheetLine) (line : SheetLine) → map sheet_line_text (lines ++ line ∷ []) ≡ map sheet_line_text lines ++ sheet_line_text line ∷ []
texts_push [] line = refl
texts_push (l ∷ lines) line = ap (λ (ts : List Text). sheet_line_text l ∷ ts) (texts_push lines line)

pub fit_push : (lines : List SheetLine) (line : SheetLine) → AllByRecursion FitsSheetLine lines → FitsSheetLine line → AllByRecursion FitsSheetLine (lines ++ line ∷ [])
fit_push [] line fit fits = (fits, tt)
fit_push (l ∷ lines) line fit fits = (fit.0, fit_push lines line fit.1 fits)

-- ---- the lines of texts

-- of the texts of lines, those before one text, it, and those behind it
pub record Cut (lines : List SheetLine) (before : List Text) (text : Text) : Type 0 where
  pub prefix : List SheetLine
  pub line : SheetLine
  pub back : List SheetLine
  pub is : lines ≡ prefix ++ line ∷ back
  pub before_is : before ≡ map sheet_line_text prefix
  pub text_is : text ≡ sheet_line_text line
  pub prefix_fit : AllByRecursion FitsSheetLine prefix
  pub line_fits : FitsSheetLine line

heads : {A : Type 0} (x y : A) (xs ys : List A) → x ∷ xs ≡ y ∷ ys → x ≡ y
heads x y xs ys e = cc

tails : {A : Type 0} (x y : A) (xs ys : List A) → x ∷ xs ≡ y ∷ ys → xs ≡ ys
tails x y xs ys e = cc

pub cut : (lines : List SheetLine) (before more : List Text) (text : Text) → AllByRecursion FitsSheetLine lines → map sheet_line_text lines ≡ before ++ text ∷ more
    → Cut lines before text
cut [] [] more text fit e = absurd (cc)
cut [] (t ∷ before) more text fit e = absurd (cc)
cut (l ∷ lines) [] more text fit e = record {
  prefix = [];
  line = l;
  back = lines;
  is = refl;
  before_is = refl;
  text_is = sym (heads (sheet_line_text l) text (map sheet_line_text lines) more e);
  prefix_fit = tt;
  line_fits = fit.0;
}
cut (l ∷ lines) (t ∷ before) more text fit e =
    let c = cut lines before more text fit.1 (tails (sheet_line_text l) t (map sheet_line_text lines) (before ++ text ∷ more) e) in
    let head : t ≡ sheet_line_text l = sym (heads (sheet_line_text l) t (map sheet_line_text lines) (before ++ text ∷ more) e) in
    record {
      prefix = l ∷ c.prefix;
      line = c.line;
      back = c.back;
      is = ap (λ (ls : List SheetLine). l ∷ ls) c.is;
      before_is = ap (λ (x : Text). x ∷ before) head ∙ ap (λ (ts : List Text). sheet_line_text l ∷ ts) c.before_is;
      text_is = c.text_is;
      prefix_fit = (fit.0, c.prefix_fit);
      line_fits = c.line_fits;
    }

-- texts are those of one list of lines
pub one_lines : LinesHaveOneText → (ls ms : List SheetLine) → AllByRecursion FitsSheetLine ls → AllByRecursion FitsSheetLine ms
    → map sheet_line_text ls ≡ map sheet_line_text ms → ls ≡ ms
one_lines law [] [] p q e = refl
one_lines law [] (m ∷ ms) p q e = absurd (cc)
one_lines law (l ∷ ls) [] p q e = absurd (cc)
one_lines law (l ∷ ls) (m ∷ ms) p q e =
    let head : l ≡ m = law l m p.0 q.0 (heads (sheet_line_text l) (sheet_line_text m) (map sheet_line_text ls) (map sheet_line_text ms) e) in
    let rest : ls ≡ ms = one_lines law ls ms p.1 q.1 (tails (sheet_line_text l) (sheet_line_text m) (map sheet_line_text ls) (map sheet_line_text ms) e) in
    ap (λ (x : SheetLine). x ∷ ls) head ∙ ap (λ (xs : List SheetLine). m ∷ xs) rest
