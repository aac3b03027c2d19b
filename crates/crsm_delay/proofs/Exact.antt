-- The lines of an input are those of at most one plan, so that what is read and what is refused is exact.
use Rattle.std.proofs.Common.{◌≡◌, ℕ, List, [], ◌∷◌, ◌++◌, get_or, decimal, refl, sym, ◌∙◌, ap, subst, inl, inr, true, arith}
use Rattle.std.specs.Prelude.{◌⊎◌, Option, Some}
use Rattle.std.proofs.lemmas.Bool.{false≢true}
use Rattle.std.proofs.lemmas.Fmt.{decimal_injective}
use Rattle.std.proofs.lemmas.Option.{none-some, same_Some}
use Rattle.crsm_port_lines.specs.Exact.{Exact}
use Rattle.crsm_port_lines.specs.Handling.{Text}
use Rattle.crsm_schedule.specs.Grammar.{IsSize, first_text}
use Rattle.crsm_text.proofs.TextLaws.{decimal_split}
use Rattle.crsm_delay.specs.Grammar.{FitsLine, line_text}
use Rattle.crsm_delay.specs.Drafts.{empty, with_line}
use Rattle.crsm_delay.specs.Advancing.{Advanced, RefusedAfter, Reads}
use Rattle.crsm_delay.specs.Reading.{IsUnfinished, plans_of}
use Rattle.crsm_delay.specs.declared.line.PlanLine.{PlanLine}
use Rattle.crsm_delay.specs.declared.line.PlanLine.TheVariants.{Offset, Delay, Command}
use Rattle.crsm_delay.specs.declared.draft.Draft.{Draft}
use Rattle.crsm_delay.specs.declared.handling.PlanCause.{PlanCause}
use Rattle.crsm_delay.specs.declared.handling.Wanted.{Wanted}

-- ---- one line for each text

line_injective : (l m : PlanLine) → FitsLine l → FitsLine m → line_text l ≡ line_text m → l ≡ m
line_injective (Offset r b) (Offset s c) fits gits e =
    let p = decimal_split r s (decimal b) (decimal c) fits.0 gits.0 (cc) in
    let first : r ≡ s = p.0 in
    let second : b ≡ c = decimal_injective b c fits.1 gits.1 p.1 in
    cc
line_injective (Delay f t b) (Delay g u c) fits gits e =
    let p = decimal_split f g (decimal t ++ 32 ∷ decimal b) (decimal u ++ 32 ∷ decimal c) fits.0 gits.0 (cc) in
    let q = decimal_split t u (decimal b) (decimal c) fits.1 gits.1 p.1 in
    let first : f ≡ g = p.0 in
    let second : t ≡ u = q.0 in
    let third : b ≡ c = decimal_injective b c fits.2 gits.2 q.1 in
    cc
line_injective (Command r a) (Command s b) fits gits e =
    let p = decimal_split r s (decimal a) (decimal b) fits.0 gits.0 (cc) in
    let first : r ≡ s = p.0 in
    let second : a ≡ b = decimal_injective a b fits.1 gits.1 p.1 in
    cc
line_injective l m fits gits e =
    let first : get_or (line_text l) 0 0 ≡ get_or (line_text m) 0 0 = ap (λ (x : List ℕ). get_or x 0 0) e in
    absurd (omega (arith, first))

first_injective : (m n : ℕ) → IsSize m → IsSize n → first_text m ≡ first_text n → m ≡ n
first_injective m n fits gits e =
    let p = fits.1 in
    let q = gits.1 in
    decimal_injective m n (omega (arith, p)) (omega (arith, q)) (cc)

-- ---- one plan for the lines

one_advance : (a b n m : Option Draft) (x y : Text) → Advanced a x n → Advanced b y m → a ≡ b → x ≡ y → n ≡ m
one_advance a b n m x y (Advanced.IsFirst i size) (Advanced.IsFirst j size') ab xy = ap (λ k. Some (empty k)) (first_injective i j size size' xy)
one_advance a b n m x y (Advanced.IsFirst i size) (Advanced.IsNext d line fits can) ab xy = absurd (none-some d ab)
one_advance a b n m x y (Advanced.IsNext d line fits can) (Advanced.IsFirst i size) ab xy = absurd (none-some d (sym ab))
one_advance a b n m x y (Advanced.IsNext c l f g) (Advanced.IsNext d k f' g') ab xy =
    let same : c ≡ d = same_Some c d ab in
    let line : l ≡ k = line_injective l k f f' xy in
    ap (λ z. Some (with_line z l)) same ∙ ap (λ z. Some (with_line d z)) line

cons_head : (x y : Text) (xs ys : List Text) → (x ∷ xs) ≡ (y ∷ ys) → x ≡ y
cons_head x y xs ys e = cc

cons_tail : (x y : Text) (xs ys : List Text) → (x ∷ xs) ≡ (y ∷ ys) → xs ≡ ys
cons_tail x y xs ys e = cc

nil_cons : (x : Text) (xs : List Text) → [] ≡ x ∷ xs → ⊥
nil_cons x xs e = cc

nil_split : (before : List Text) (line : Text) (more : List Text) → [] ≡ before ++ line ∷ more → ⊥
nil_split [] line more e = nil_cons line more e
nil_split (b ∷ bs) line more e = nil_cons b (bs ++ line ∷ more) e

-- where a list ends with one more
snoc_split : (ts : List Text) (text : Text) (before : List Text) (line : Text) (more : List Text) → ts ++ text ∷ [] ≡ before ++ line ∷ more →
    ((more ≡ []) × (ts ≡ before) × (text ≡ line)) ⊎ ((rest : List Text) × (ts ≡ before ++ line ∷ rest))
snoc_split [] text [] line more e = inl (sym (cons_tail text line [] more e), refl, cons_head text line [] more e)
snoc_split [] text (b ∷ bs) line more e = absurd (nil_split bs line more (cons_tail text b [] (bs ++ line ∷ more) e))
snoc_split (t ∷ ts) text [] line more e = inr (ts, ap (λ z. z ∷ ts) (cons_head t line (ts ++ text ∷ []) more e))
snoc_split (t ∷ ts) text (b ∷ bs) line more e = elim (snoc_split ts text bs line more (cons_tail t b (ts ++ text ∷ []) (bs ++ line ∷ more) e)) [
  | inl h ↦ inl (h.0, ap (λ z. z ∷ ts) (cons_head t b (ts ++ text ∷ []) (bs ++ line ∷ more) e) ∙ ap (λ z. b ∷ z) h.1, h.2)
  | inr h ↦ inr (h.0, ap (λ z. z ∷ ts) (cons_head t b (ts ++ text ∷ []) (bs ++ line ∷ more) e) ∙ ap (λ z. b ∷ z) h.1)
]

snoc_same : (ts us : List Text) (x y : Text) → ts ++ x ∷ [] ≡ us ++ y ∷ [] → (ts ≡ us) × (x ≡ y)
snoc_same ts us x y e = elim (snoc_split ts x us y [] e) [
  | inl h ↦ (h.1, h.2)
  | inr h ↦ absurd (too_long us y h.0 x (sym (ap (λ z. z ++ x ∷ []) h.1) ∙ e))
]
  where
    too_long : (us : List Text) (y : Text) (rest : List Text) (x : Text) → (us ++ y ∷ rest) ++ x ∷ [] ≡ us ++ y ∷ [] → ⊥
    too_long [] y [] x e = nil_cons x [] (sym (cons_tail y y (x ∷ []) [] e))
    too_long [] y (r ∷ rest) x e = nil_cons r (rest ++ x ∷ []) (sym (cons_tail y y (r ∷ (rest ++ x ∷ [])) [] e))
    too_long (u ∷ us) y rest x e = too_long us y rest x (cons_tail u u ((us ++ y ∷ rest) ++ x ∷ []) (us ++ y ∷ []) e)

one_reading : (s t : List Text) (a b : Option Draft) → Reads s a → Reads t b → s ≡ t → a ≡ b
one_reading s t a b Reads.nothing Reads.nothing e = refl
one_reading s t a b Reads.nothing (Reads.more {texts = ts} text r v) e = absurd (nil_split ts text [] e)
one_reading s t a b (Reads.more {texts = ts} text r v) Reads.nothing e = absurd (nil_split ts text [] (sym e))
one_reading s t a b (Reads.more {texts = ts} {old = o} x r v) (Reads.more {texts = us} {old = p} y r' v') e =
    let same = snoc_same ts us x y e in
    one_advance o p a b x y v v' (one_reading ts us o p r r' same.0) same.1

-- what was read before a line, and the line
split_reading : (s : List Text) (o : Option Draft) → Reads s o → (before : List Text) (line : Text) (more : List Text) → s ≡ before ++ line ∷ more →
    (old : Option Draft) × (new : Option Draft) × Reads before old × Advanced old line new
split_reading s o Reads.nothing before line more e = absurd (nil_split before line more e)
split_reading s o (Reads.more {texts = ts} {old = old} x r v) before line more e = elim (snoc_split ts x before line more e) [
  | inl h ↦ (old, o, subst (λ l. Reads l old) h.1 r, subst (λ l. Advanced old l o) h.2 v)
  | inr h ↦ split_reading ts old r before line h.0 h.1
]

not_refused : (old new : Option Draft) (line : Text) → Advanced old line new → RefusedAfter old line → ⊥
not_refused old new line (Advanced.IsFirst n size) r = r n size refl
not_refused old new line (Advanced.IsNext d l fits can) r = r l fits can refl

not_unfinished : (d : Draft) (o : Option Draft) → Some d ≡ o → d.is_whole ≡ true → IsUnfinished o → ⊥
not_unfinished d o e w u = false≢true (sym (subst IsUnfinished (sym e) u) ∙ w)

pub exact : (wanted : Wanted) → Exact (plans_of wanted)
exact wanted = record {
  unreadable = PlanCause.Unreadable;
  handled = λ handler lines shown has before more line told why e r.
      (let p = split_reading lines handler.draft has.so.reads before line more e in
      not_refused p.0 p.1 line p.3 (subst (λ o. RefusedAfter o line) (one_reading before before r.draft p.0 r.so.reads p.2 refl) r.refused));
  ended = λ lines shown last ends told why no. not_unfinished ends.draft no.draft (one_reading lines lines (Some ends.draft) no.draft ends.so.reads no.so.reads refl) ends.whole no.unfinished;
  one_reason = λ lines shown other line why w r s. r.unreadable ∙ sym s.unreadable;
  long_reason = λ lines shown line why r long. r.unreadable;
  one_end = λ lines shown other why w r s. r.unreadable ∙ sym s.unreadable;
}
