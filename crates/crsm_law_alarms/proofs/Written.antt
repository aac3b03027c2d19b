-- The sheets that an audit reads from the lines of processes are those of the processes.
use Rattle.std.proofs.Common.{◌≡◌, ℕ, List, [], ◌∷◌, refl, sym, ◌∙◌, ap, subst, inl, inr}
use Rattle.crsm_base.specs.Records.{SpeltBody}
use Rattle.crsm_spec.specs.Types.{Rec}
use Rattle.crsm_spec.specs.Lists.{Among, IsPrefixOf}
use Rattle.crsm_spec.specs.Log.{Log}
use Rattle.crsm_spec_process.specs.Lives.{Life, kept_turns}
use Rattle.crsm_ledger.specs.Recovered.{AreKept, with_records}
use Rattle.crsm_text_sheet.specs.Laws.{SheetsTellTurns}
use Rattle.crsm_law_nodes.specs.Sheets.{IsSheetOf}
use Rattle.crsm_law_sheets.specs.Sheets.{Sheet}
use Rattle.crsm_law_honest.specs.Honest.{AreWrittenBy, IsWrittenBy}
use Rattle.crsm_audit.specs.Sheets.{AreSheetsOf, IsSheetOf as IsRead, NodeSheet}
use Rattle.crsm_law_alarms.specs.Lines.{AreOfProcesses}

-- a body is that of one list of records
abbrev pub BodiesHaveOne : Type 0
BodiesHaveOne = (a b : List Rec) (s : List ℕ) → SpeltBody a s → SpeltBody b s → a ≡ b

-- so bodies hold one log
one_log : BodiesHaveOne → (me n : ℕ) (log : Log) (bodies : List (List ℕ)) (a b : Log) → AreKept me n log bodies a → AreKept me n log bodies b → a ≡ b
one_log one me n log [] a b p q = p ∙ sym q
one_log one me n log (body ∷ bodies) a b p q =
    let records = one p.0 q.0 body p.1 q.1 in
    one_log one me n (with_records log p.0) bodies a b p.3 (subst (λ (recs : List Rec). AreKept me n (with_records log recs) bodies b) (sym records) q.3)

-- the lines from which a sheet was read
read_from : (n : ℕ) (nodes : List NodeSheet) (sheets : List Sheet) → AreSheetsOf n nodes sheets → (s : Sheet) → Among sheets s → (node : NodeSheet) × Among nodes node × IsRead n node s
read_from n [] [] are s m = absurd m
read_from n [] (t ∷ sheets) are s m = absurd are
read_from n (node ∷ nodes) [] are s m = absurd m
read_from n (node ∷ nodes) (t ∷ sheets) are s (inl e) = (node, inl refl, subst (IsRead n node) e are.0)
read_from n (node ∷ nodes) (t ∷ sheets) are s (inr m) = let r = read_from n nodes sheets are.1 s m in (r.0, inr r.1, r.2)

module _ (one : BodiesHaveOne) (tell : SheetsTellTurns) (n : ℕ) where
  pub written_by : (l : Life) (node : NodeSheet) (s : Sheet) → l.me ≡ node.me → IsSheetOf n l node.lines → IsRead n node s → IsWrittenBy l s
  written_by l node s me p q =
      let parts = tell q.sheet.bodies p.bodies q.sheet.turns p.turns (sym q.sheet.is ∙ p.is) in
      let kept : AreKept l.me n [] p.bodies q.sheet.log =
      subst (λ k. AreKept k n [] p.bodies q.sheet.log) (sym me) (subst (λ (bs : List (List ℕ)). AreKept node.me n [] bs q.sheet.log) parts.0 q.sheet.kept) in
      let turns_are : p.turns ≡ s.turns = sym parts.1 ∙ sym (ap (λ (z : Sheet). z.turns) q.is) in
      record {
        me = ap (λ (z : Sheet). z.me) q.is ∙ sym me;
        found = ap (λ (z : Sheet). z.found) q.is ∙ one_log one l.me n [] p.bodies q.sheet.log l.found kept p.kept;
        turns = subst (λ ts. IsPrefixOf ts (kept_turns l.groups)) turns_are p.prefix;
      }

  pub are_written : (ls : List Life) (nodes : List NodeSheet) (sheets : List Sheet) → AreSheetsOf n nodes sheets → AreOfProcesses n ls nodes → AreWrittenBy ls sheets
  are_written ls nodes sheets are of_them s m =
      let r = read_from n nodes sheets are s m in
      let t = of_them r.0 r.1 in
      (t.0, t.1, written_by t.0 r.0 s t.2 t.3 r.2)
