-- The lines that can follow in a sheet, and where they are not a log.
use Rattle.std.proofs.Common.{◌≡◌, ℕ, List, [], ◌∷◌, ◌++◌, map, refl, ap, sym, ◌∙◌, subst, append_assoc, inl, inr}
use Rattle.crsm_spec.specs.Draft.{Draft}
use Rattle.crsm_spec.specs.Node.{Turn}
use Rattle.crsm_ledger.specs.Recovered.{AreKept}
use Rattle.crsm_text_sheet.specs.declared.line.SheetLine.{SheetLine}
use Rattle.crsm_text_sheet.specs.declared.line.SheetLine.TheVariants.{Entry, Open}
use Rattle.crsm_text_sheet.specs.Sheets.{entry_line, sheet_of, turn_line}
use Rattle.crsm_replica_rerun.specs.Laws.{KeptAreNotBad}
use Rattle.crsm_replica_rerun.specs.Sheets.{BeginASheet, HoldBadLog, LeadTo}

opened : (bodies : List (List ℕ)) → sheet_of bodies [] ≡ map entry_line bodies ++ Open ∷ []
unfolding sheet_of
opened bodies = refl

sheet_is : (bodies : List (List ℕ)) (turns : List (Turn × ℕ)) → sheet_of bodies turns ≡ map entry_line bodies ++ Open ∷ map turn_line turns
unfolding sheet_of
sheet_is bodies turns = refl

-- what leads to steps begins a sheet
pub begins : (me n : ℕ) (lines prefix back : List SheetLine) (steps : List Draft) → LeadTo me n lines steps → lines ≡ prefix ++ back → BeginASheet prefix
begins me n lines prefix back steps (inl p) is = record {
  bodies = p.0.bodies;
  turns = [];
  more = back ++ Open ∷ [];
  is = sym (append_assoc prefix back (Open ∷ [])) ∙ ap (λ (ls : List SheetLine). ls ++ Open ∷ []) (sym is ∙ p.0.is) ∙ sym (opened p.0.bodies);
}
begins me n lines prefix back steps (inr p) is = record { bodies = p.sheet.bodies; turns = p.sheet.turns; more = back; is = sym is ∙ p.sheet.is }

-- bodies and `open` begin a sheet
pub open_begins : (lines : List SheetLine) (bodies : List (List ℕ)) → lines ≡ map entry_line bodies → BeginASheet (lines ++ Open ∷ [])
open_begins lines bodies is = record {
  bodies = bodies;
  turns = [];
  more = [];
  is = append_nil_at (lines ++ Open ∷ []) ∙ ap (λ (ls : List SheetLine). ls ++ Open ∷ []) is ∙ sym (opened bodies);
}
  where
    append_nil_at : (ls : List SheetLine) → ls ++ [] ≡ ls
    append_nil_at [] = refl
    append_nil_at (l ∷ ls) = ap (λ (xs : List SheetLine). l ∷ xs) (append_nil_at ls)

-- no body's line is `open`
no_open : (bodies : List (List ℕ)) (prefix back : List SheetLine) → map entry_line bodies ≡ prefix ++ Open ∷ back → ⊥
no_open [] [] back e = cc
no_open [] (l ∷ prefix) back e = cc
no_open (b ∷ bodies) [] back e = let heads : Entry b ≡ Open = cc in cc
no_open (b ∷ bodies) (l ∷ prefix) back e = let tails : map entry_line bodies ≡ prefix ++ Open ∷ back = cc in no_open bodies prefix back tails

-- the bodies before `open` are those of the sheet
one_prefix : (bodies others : List (List ℕ)) (rest back : List SheetLine) → map entry_line bodies ++ Open ∷ rest ≡ map entry_line others ++ Open ∷ back → bodies ≡ others
one_prefix [] [] rest back e = refl
one_prefix [] (c ∷ others) rest back e = let heads : Open ≡ Entry c = cc in absurd (cc)
one_prefix (b ∷ bodies) [] rest back e = let heads : Entry b ≡ Open = cc in absurd (cc)
one_prefix (b ∷ bodies) (c ∷ others) rest back e =
    let heads : Entry b ≡ Entry c = cc in
    let body : b ≡ c = cc in
    let tails : map entry_line bodies ++ Open ∷ rest ≡ map entry_line others ++ Open ∷ back = cc in
    ap (λ (x : List ℕ). x ∷ bodies) body ∙ ap (λ (xs : List (List ℕ)). c ∷ xs) (one_prefix bodies others rest back tails)

-- bodies that are no log lead to nothing behind `open`
pub bad_leads_nowhere : KeptAreNotBad → (me n : ℕ) (lines prefix back : List SheetLine) (steps : List Draft) (entry why : ℕ) → LeadTo me n lines steps
    → lines ≡ prefix ++ Open ∷ back → HoldBadLog me n prefix entry why → ⊥
bad_leads_nowhere law me n lines prefix back steps entry why (inl p) is bad = no_open p.0.bodies prefix back (sym p.0.is ∙ is)
bad_leads_nowhere law me n lines prefix back steps entry why (inr p) is bad =
    let s = p.sheet in
    let whole : map entry_line s.bodies ++ Open ∷ map turn_line s.turns ≡ map entry_line bad.are.bodies ++ Open ∷ back =
    sym (sheet_is s.bodies s.turns) ∙ sym s.is ∙ is ∙ ap (λ (ls : List SheetLine). ls ++ Open ∷ back) bad.are.is in
    let same : s.bodies ≡ bad.are.bodies = one_prefix s.bodies bad.are.bodies (map turn_line s.turns) back whole in
    law me n bad.are.bodies s.log entry why (subst (λ (bs : List (List ℕ)). AreKept me n [] bs s.log) same s.kept) bad.bad

-- bodies are those of one list
pub one_bodies : (bodies others : List (List ℕ)) → map entry_line bodies ≡ map entry_line others → bodies ≡ others
one_bodies bodies others e = one_prefix bodies others [] [] (ap (λ (ls : List SheetLine). ls ++ Open ∷ []) e)
