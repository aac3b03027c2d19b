-- Sheets that an audit reads from whole lines are whole.
use Rattle.std.proofs.Common.{◌≡◌, ℕ, zero, suc, ◌<◌, List, [], ◌∷◌, refl, sym, ◌∙◌, ap, subst}
use Rattle.std.specs.Prelude.{Some, slice_get}
use Rattle.std.proofs.lemmas.List.{append-nil}
use Rattle.std.proofs.lemmas.Option.{none-some, same_Some}
use Rattle.crsm_spec_process.specs.Lives.{Life, kept_turns}
use Rattle.crsm_text_sheet.specs.Laws.{SheetsTellTurns}
use Rattle.crsm_fact_log.proofs.Lists.{last_among}
use Rattle.crsm_law_lives.specs.Events.{lives_of}
use Rattle.crsm_law_lives.proofs.Laws.{life_own}
use Rattle.crsm_law_nodes.specs.Sheets.{IsSheetOf}
use Rattle.crsm_law_sheets.specs.Sheets.{Sheet}
use Rattle.crsm_law_honest.specs.Honest.{EndWhole, IsWholeOf}
use Rattle.crsm_audit.specs.Sheets.{AreSheetsOf, IsSheetOf as IsRead, NodeSheet}
use Rattle.crsm_law_alarms.specs.Lines.{EndInWholeSheets, IsWholeSheetOf}
use Rattle.crsm_law_alarms.proofs.Written.{BodiesHaveOne, written_by}

-- a sheet stands where its lines do
lines_at : (n : ℕ) (nodes : List NodeSheet) (sheets : List Sheet) → AreSheetsOf n nodes sheets → (i : ℕ) (s : Sheet) → slice_get sheets i ≡ Some s → (node : NodeSheet) × (slice_get nodes i ≡ Some node) × IsRead n node s
lines_at n [] [] are i s at = absurd (none-some s at)
lines_at n [] (t ∷ sheets) are i s at = absurd are
lines_at n (node ∷ nodes) [] are i s at = absurd (none-some s at)
lines_at n (node ∷ nodes) (t ∷ sheets) are zero s at = (node, refl, subst (IsRead n node) (same_Some t s at) are.0)
lines_at n (node ∷ nodes) (t ∷ sheets) are (suc i) s at = lines_at n nodes sheets are.1 i s at

sheet_at : (n : ℕ) (nodes : List NodeSheet) (sheets : List Sheet) → AreSheetsOf n nodes sheets → (i : ℕ) (node : NodeSheet) → slice_get nodes i ≡ Some node → (s : Sheet) × (slice_get sheets i ≡ Some s) × IsRead n node s
sheet_at n [] [] are i node at = absurd (none-some node at)
sheet_at n [] (t ∷ sheets) are i node at = absurd are
sheet_at n (first ∷ nodes) [] are i node at = absurd are
sheet_at n (first ∷ nodes) (t ∷ sheets) are zero node at = (t, refl, subst (λ z. IsRead n z t) (same_Some first node at) are.0)
sheet_at n (first ∷ nodes) (t ∷ sheets) are (suc i) node at = sheet_at n nodes sheets are.1 i node at

me_is : (n : ℕ) (node : NodeSheet) (s : Sheet) → IsRead n node s → s.me ≡ node.me
me_is n node s q = ap (λ (z : Sheet). z.me) q.is

module _ (one : BodiesHaveOne) (tell : SheetsTellTurns) (n : ℕ) where
  whole_of : (l : Life) (node : NodeSheet) (s : Sheet) → l.me ≡ node.me → IsWholeSheetOf n l node.lines → IsRead n node s → IsWholeOf l s
  whole_of l node s me p q =
      let sheet : IsSheetOf n l node.lines = record { bodies = p.bodies; turns = kept_turns l.groups; kept = p.kept; prefix = ([], append-nil (kept_turns l.groups)); is = p.is } in
      let w = written_by one tell n l node s me sheet q in
      let parts = tell q.sheet.bodies p.bodies q.sheet.turns (kept_turns l.groups) (sym q.sheet.is ∙ p.is) in
      record { me = w.me; found = w.found; turns = ap (λ (z : Sheet). z.turns) q.is ∙ parts.1 }

  pub end_whole : (ls : List Life) (nodes : List NodeSheet) (sheets : List Sheet) → AreSheetsOf n nodes sheets → EndInWholeSheets n ls nodes → EndWhole n ls sheets
  end_whole ls nodes sheets are whole k s of_it =
      let r = lines_at n nodes sheets are of_it.i s of_it.there in
      let me : r.0.me ≡ k = sym (me_is n r.0 s r.2) ∙ of_it.me in
      let t = whole k of_it.i r.0 (record { there = r.1; me = me; last = later }) in
      let own = (life_own k ls t.0 (last_among (lives_of k ls) t.0 t.1)).0 in
      (t.0, t.1, whole_of t.0 r.0 s (own ∙ sym me) t.2 r.2)
    where
      later : (j : ℕ) (other : NodeSheet) → of_it.i < j → slice_get nodes j ≡ Some other → other.me ≡ k → ⊥
      later j other lt at is = (let z = sheet_at n nodes sheets are j other at in of_it.last j z.0 lt z.1 (me_is n other z.0 z.2 ∙ is))
