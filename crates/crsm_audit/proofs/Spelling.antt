-- The lines of texts.
use Rattle.std.proofs.Common.{◌≡◌, ℕ, List, [], ◌∷◌, ◌++◌, map, get_or, refl, ap, sym, ◌∙◌, arith}
use Rattle.std.specs.List.{AllByRecursion}
use Rattle.std.proofs.lemmas.Fmt.{decimal_injective}
use Rattle.crsm_port_lines.specs.Handling.{Text}
use Rattle.crsm_text_sheet.specs.declared.line.SheetLine.{SheetLine}
use Rattle.crsm_text_sheet.specs.declared.line.SheetLine.TheVariants.{Entry, Open, In, Tick, Suspect}
use Rattle.crsm_text_sheet.specs.Laws.{LinesHaveOneText}
use Rattle.crsm_audit.specs.Lines.{FitsLine, line_text}
use Rattle.crsm_audit.specs.declared.line.AuditLine.{AuditLine}
use Rattle.crsm_audit.specs.declared.line.AuditLine.TheVariants.{Node, Sheet}

-- ---- one line for each text

-- no line of a sheet begins as one that names a node
not_node : (l : SheetLine) (me : ℕ) → line_text (Sheet l) ≡ line_text (Node me) → ⊥
not_node (Entry b) me e = let first : get_or (line_text (Sheet (Entry b))) 0 0 ≡ 110 = ap (λ (x : Text). get_or x 0 0) e in omega (arith, first)
not_node Open me e = let first : get_or (line_text (Sheet Open)) 0 0 ≡ 110 = ap (λ (x : Text). get_or x 0 0) e in omega (arith, first)
not_node (In r a b) me e = let first : get_or (line_text (Sheet (In r a b))) 0 0 ≡ 110 = ap (λ (x : Text). get_or x 0 0) e in omega (arith, first)
not_node (Tick r) me e = let first : get_or (line_text (Sheet (Tick r))) 0 0 ≡ 110 = ap (λ (x : Text). get_or x 0 0) e in omega (arith, first)
not_node (Suspect r m) me e = let first : get_or (line_text (Sheet (Suspect r m))) 0 0 ≡ 110 = ap (λ (x : Text). get_or x 0 0) e in omega (arith, first)

one_line : LinesHaveOneText → (l m : AuditLine) → FitsLine l → FitsLine m → line_text l ≡ line_text m → l ≡ m
one_line law (Node j) (Node k) p q e = ap Node (decimal_injective j k (omega (arith, p)) (omega (arith, q)) (cc))
one_line law (Node j) (Sheet m) p q e = absurd (not_node m j (sym e))
one_line law (Sheet l) (Node k) p q e = absurd (not_node l k e)
one_line law (Sheet l) (Sheet m) p q e = ap Sheet (law l m p q e)

-- ---- one list of lines

heads : {A : Type 0} (x y : A) (xs ys : List A) → x ∷ xs ≡ y ∷ ys → x ≡ y
heads x y xs ys e = cc

tails : {A : Type 0} (x y : A) (xs ys : List A) → x ∷ xs ≡ y ∷ ys → xs ≡ ys
tails x y xs ys e = cc

pub one_lines : LinesHaveOneText → (ls ms : List AuditLine) → AllByRecursion FitsLine ls → AllByRecursion FitsLine ms → map line_text ls ≡ map line_text ms → ls ≡ ms
one_lines law [] [] p q e = refl
one_lines law [] (m ∷ ms) p q e = absurd (cc)
one_lines law (l ∷ ls) [] p q e = absurd (cc)
one_lines law (l ∷ ls) (m ∷ ms) p q e =
    let head : l ≡ m = one_line law l m p.0 q.0 (heads (line_text l) (line_text m) (map line_text ls) (map line_text ms) e) in
    let rest : ls ≡ ms = one_lines law ls ms p.1 q.1 (tails (line_text l) (line_text m) (map line_text ls) (map line_text ms) e) in
    ap (λ (x : AuditLine). x ∷ ls) head ∙ ap (λ (xs : List AuditLine). m ∷ xs) rest

-- of the texts of lines, those before one text, it, and those behind it
pub record Cut (lines : List AuditLine) (before : List Text) (text : Text) : Type 0 where
  pub prefix : List AuditLine
  pub line : AuditLine
  pub back : List AuditLine
  pub is : lines ≡ prefix ++ line ∷ back
  pub before_is : before ≡ map line_text prefix
  pub text_is : text ≡ line_text line
  pub prefix_fit : AllByRecursion FitsLine prefix
  pub line_fits : FitsLine line

pub cut : (lines : List AuditLine) (before more : List Text) (text : Text) → AllByRecursion FitsLine lines → map line_text lines ≡ before ++ text ∷ more → Cut lines before text
cut [] [] more text fit e = absurd (cc)
cut [] (t ∷ before) more text fit e = absurd (cc)
cut (l ∷ lines) [] more text fit e = record {
  prefix = [];
  line = l;
  back = lines;
  is = refl;
  before_is = refl;
  text_is = sym (heads (line_text l) text (map line_text lines) more e);
  prefix_fit = tt;
  line_fits = fit.0;
}
cut (l ∷ lines) (t ∷ before) more text fit e =
    let c = cut lines before more text fit.1 (tails (line_text l) t (map line_text lines) (before ++ text ∷ more) e) in
    let head : t ≡ line_text l = sym (heads (line_text l) t (map line_text lines) (before ++ text ∷ more) e) in
    record {
      prefix = l ∷ c.prefix;
      line = c.line;
      back = c.back;
      is = ap (λ (ls : List AuditLine). l ∷ ls) c.is;
      before_is = ap (λ (x : Text). x ∷ before) head ∙ ap (λ (ts : List Text). line_text l ∷ ts) c.before_is;
      text_is = c.text_is;
      prefix_fit = (fit.0, c.prefix_fit);
      line_fits = c.line_fits;
    }

-- ---- one line more

pub texts_push : (lines : List AuditLine) (line : AuditLine) → map line_text (lines ++ line ∷ []) ≡ map line_text lines ++ line_text line ∷ []
texts_push [] line = refl
texts_push (l ∷ lines) line = ap (λ (ts : List Text). line_text l ∷ ts) (texts_push lines line)

pub fit_push : (lines : List AuditLine) (line : AuditLine) → AllByRecursion FitsLine lines → FitsLine line → AllByRecursion FitsLine (lines ++ line ∷ [])
fit_push [] line fit fits = (fits, tt)
fit_push (l ∷ lines) line fit fits = (fit.0, fit_push lines line fit.1 fits)
