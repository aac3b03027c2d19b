-- The lines after the bodies of a sheet.
use Rattle.std.proofs.Common.{◌≡◌, ◌≢◌, ℕ, List, [], ◌∷◌, ◌++◌, map, refl, ap, ◌∙◌}
use Rattle.crsm_text_sheet.specs.declared.line.SheetLine.{SheetLine}
use Rattle.crsm_text_sheet.specs.declared.line.SheetLine.TheVariants.{Entry, Open}
use Rattle.crsm_text_sheet.specs.Sheets.{entry_line}

-- the bodies before `open` are those of the sheet
pub one_prefix : (bodies others : List (List ℕ)) (rest back : List SheetLine) → map entry_line bodies ++ Open ∷ rest ≡ map entry_line others ++ Open ∷ back → bodies ≡ others
one_prefix [] [] rest back e = refl
one_prefix [] (c ∷ others) rest back e = let heads : Open ≡ Entry c = cc in absurd (cc)
one_prefix (b ∷ bodies) [] rest back e = let heads : Entry b ≡ Open = cc in absurd (cc)
one_prefix (b ∷ bodies) (c ∷ others) rest back e =
    let heads : Entry b ≡ Entry c = cc in
    let body : b ≡ c = cc in
    let tails : map entry_line bodies ++ Open ∷ rest ≡ map entry_line others ++ Open ∷ back = cc in
    ap (λ (x : List ℕ). x ∷ bodies) body ∙ ap (λ (xs : List (List ℕ)). c ∷ xs) (one_prefix bodies others rest back tails)

no_snoc : (xs : List SheetLine) (x : SheetLine) → [] ≢ xs ++ x ∷ []
no_snoc [] x e = cc
no_snoc (y ∷ xs) x e = cc

-- what comes before the last of lines
pub same_prefix : (xs ys : List SheetLine) (x y : SheetLine) → xs ++ x ∷ [] ≡ ys ++ y ∷ [] → xs ≡ ys
same_prefix [] [] x y e = refl
same_prefix [] (z ∷ ys) x y e = let tails : [] ≡ ys ++ y ∷ [] = cc in absurd (no_snoc ys y tails)
same_prefix (z ∷ xs) [] x y e = let tails : [] ≡ xs ++ x ∷ [] = cc in absurd (no_snoc xs x tails)
same_prefix (z ∷ xs) (w ∷ ys) x y e =
    let heads : z ≡ w = cc in
    let tails : xs ++ x ∷ [] ≡ ys ++ y ∷ [] = cc in
    ap (λ (v : SheetLine). v ∷ xs) heads ∙ ap (λ (vs : List SheetLine). w ∷ vs) (same_prefix xs ys x y tails)

-- the last of lines of bodies alone is that of a body
pub record LastBody (own : List SheetLine) (line : SheetLine) (bodies : List (List ℕ)) : Type 0 where
  pub before : List (List ℕ)
  pub body : List ℕ
  pub is : bodies ≡ before ++ body ∷ []
  pub own_is : own ≡ map entry_line before
  pub line_is : line ≡ Entry body

pub last_body : (own : List SheetLine) (line : SheetLine) (bodies : List (List ℕ)) → own ++ line ∷ [] ≡ map entry_line bodies → LastBody own line bodies
last_body [] line [] e = absurd (cc)
last_body [] line (b ∷ []) e = record { before = []; body = b; is = refl; own_is = refl; line_is = cc }
last_body [] line (b ∷ c ∷ bodies) e = let tails : [] ≡ Entry c ∷ map entry_line bodies = cc in absurd (cc)
last_body (l ∷ own) line [] e = absurd (cc)
last_body (l ∷ own) line (b ∷ bodies) e =
    let heads : l ≡ Entry b = cc in
    let tails : own ++ line ∷ [] ≡ map entry_line bodies = cc in
    let t = last_body own line bodies tails in
    record {
      before = b ∷ t.before;
      body = t.body;
      is = ap (λ (xs : List (List ℕ)). b ∷ xs) t.is;
      own_is = ap (λ (x : SheetLine). x ∷ own) heads ∙ ap (λ (xs : List SheetLine). Entry b ∷ xs) t.own_is;
      line_is = t.line_is;
    }
