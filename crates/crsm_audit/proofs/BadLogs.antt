-- A bad log is that of one sheet, and bad for one reason.
use Rattle.std.proofs.Common.{◌≡◌, ℕ, ◌+◌, List, [], ◌∷◌, ◌++◌, map, length, ap, sym, ◌∙◌, subst, append_assoc}
use Rattle.crsm_law_sheets.specs.Sheets.{Sheet}
use Rattle.crsm_ledger.specs.Recovered.{AreKept, IsBadAt}
use Rattle.crsm_replica_rerun.specs.Laws.{BadLogsAreOne, KeptAreNotBad}
use Rattle.crsm_text_sheet.specs.declared.line.SheetLine.{SheetLine}
use Rattle.crsm_text_sheet.specs.declared.line.SheetLine.TheVariants.{Open}
use Rattle.crsm_text_sheet.specs.Sheets.{entry_line, sheet_of, turn_line}
use Rattle.crsm_audit.specs.Sheets.{AreSheetsOf, HoldBadLog, IsSheetOf, NodeSheet, own_lines, sheets_from, sheets_in}
use Rattle.crsm_audit.specs.declared.line.AuditLine.{AuditLine}
use Rattle.crsm_audit.specs.declared.line.AuditLine.TheVariants as lines
use Rattle.crsm_audit.proofs.Bodies.{one_prefix}
use Rattle.crsm_audit.proofs.Parts.{among, own_first, parts}

-- the sheet found a bad log: this body of it is the first bad one, for this reason
record IsBadSheet (n : ℕ) (node : NodeSheet) (entry why : ℕ) : Type 0 where
  pub bodies : List (List ℕ)
  pub rest : List SheetLine
  pub are : node.lines ≡ map entry_line bodies ++ Open ∷ rest
  pub bad : IsBadAt node.me n bodies entry why

-- the first such sheet
record FirstBad (n : ℕ) (nodes : List NodeSheet) (entry why : ℕ) : Type 0 where
  pub before : List NodeSheet
  pub sheets : List Sheet
  pub good : AreSheetsOf n before sheets
  pub node : NodeSheet
  pub after : List NodeSheet
  pub is : nodes ≡ before ++ node ∷ after
  pub bad : IsBadSheet n node entry why

first_bad : (n : ℕ) (ls : List AuditLine) (entry why : ℕ) → HoldBadLog n ls entry why → FirstBad n (sheets_in ls) entry why
first_bad n ls entry why h =
    let head = map entry_line h.bodies ++ Open ∷ [] in
    let rest = map lines.Sheet head ++ h.more in
    record {
      before = sheets_in h.before;
      sheets = h.sheets;
      good = h.are;
      node = record { me = h.me; first = length h.before + 2; lines = own_lines rest };
      after = sheets_from (length h.before + 2) rest;
      is = ap sheets_in h.is ∙ parts h.before rest h.me;
      bad = record {
        bodies = h.bodies;
        rest = own_lines h.more;
        are = own_first head h.more ∙ append_assoc (map entry_line h.bodies) (Open ∷ []) (own_lines h.more);
        bad = h.bad;
      };
    }

module _ (kept : KeptAreNotBad) (one : BadLogsAreOne) (n : ℕ) where
  -- what is replayed found no bad log
  sheet_not_bad : (node : NodeSheet) (s : Sheet) (entry why : ℕ) → IsSheetOf n node s → IsBadSheet n node entry why → ⊥
  unfolding sheet_of
  sheet_not_bad node s entry why is bad =
      let sheet = is.sheet in
      let same : sheet.bodies ≡ bad.bodies = one_prefix sheet.bodies bad.bodies (map turn_line sheet.turns) bad.rest (sym sheet.is ∙ bad.are) in
      kept node.me n bad.bodies sheet.log entry why (subst (λ (bs : List (List ℕ)). AreKept node.me n [] bs sheet.log) same sheet.kept) bad.bad

  pub no_bad_log : (ls : List AuditLine) (sheets : List Sheet) (entry why : ℕ) → AreSheetsOf n (sheets_in ls) sheets → HoldBadLog n ls entry why → ⊥
  no_bad_log ls sheets entry why are h =
      let f = first_bad n ls entry why h in
      let s = among n f.before f.after f.node sheets (subst (λ (nodes : List NodeSheet). AreSheetsOf n nodes sheets) f.is are) in
      sheet_not_bad f.node s.0 entry why s.1 f.bad

  one_bad_sheet : (node : NodeSheet) (e f w v : ℕ) → IsBadSheet n node e w → IsBadSheet n node f v → (e ≡ f) × (w ≡ v)
  one_bad_sheet node e f w v p q =
      let same : p.bodies ≡ q.bodies = one_prefix p.bodies q.bodies p.rest q.rest (sym p.are ∙ q.are) in
      one node.me n q.bodies e f w v (subst (λ (bs : List (List ℕ)). IsBadAt node.me n bs e w) same p.bad) q.bad

  one_first : (xs ys after more : List NodeSheet) (a b : NodeSheet) (ss ts : List Sheet) (e f w v : ℕ) → xs ++ a ∷ after ≡ ys ++ b ∷ more → AreSheetsOf n xs ss → AreSheetsOf n ys ts
      → IsBadSheet n a e w → IsBadSheet n b f v → (e ≡ f) × (w ≡ v)
  one_first [] [] after more a b ss ts e f w v same good fine p q =
      let is : a ≡ b = cc in one_bad_sheet b e f w v (subst (λ (x : NodeSheet). IsBadSheet n x e w) is p) q
  one_first [] (y ∷ ys) after more a b ss [] e f w v same good fine p q = absurd fine
  one_first [] (y ∷ ys) after more a b ss (t ∷ ts) e f w v same good fine p q =
      let is : a ≡ y = cc in absurd (sheet_not_bad y t e w fine.0 (subst (λ (x : NodeSheet). IsBadSheet n x e w) is p))
  one_first (x ∷ xs) [] after more a b [] ts e f w v same good fine p q = absurd good
  one_first (x ∷ xs) [] after more a b (s ∷ ss) ts e f w v same good fine p q =
      let is : b ≡ x = cc in absurd (sheet_not_bad x s f v good.0 (subst (λ (y : NodeSheet). IsBadSheet n y f v) is q))
  one_first (x ∷ xs) (y ∷ ys) after more a b [] ts e f w v same good fine p q = absurd good
  one_first (x ∷ xs) (y ∷ ys) after more a b (s ∷ ss) [] e f w v same good fine p q = absurd fine
  one_first (x ∷ xs) (y ∷ ys) after more a b (s ∷ ss) (t ∷ ts) e f w v same good fine p q =
      let tails : xs ++ a ∷ after ≡ ys ++ b ∷ more = cc in one_first xs ys after more a b ss ts e f w v tails good.1 fine.1 p q

  pub one_bad_log : (ls : List AuditLine) (e f w v : ℕ) → HoldBadLog n ls e w → HoldBadLog n ls f v → (e ≡ f) × (w ≡ v)
  one_bad_log ls e f w v h k =
      let p = first_bad n ls e w h in
      let q = first_bad n ls f v k in
      one_first p.before q.before p.after q.after p.node q.node p.sheets q.sheets e f w v (sym p.is ∙ q.is) p.good q.good p.bad q.bad
