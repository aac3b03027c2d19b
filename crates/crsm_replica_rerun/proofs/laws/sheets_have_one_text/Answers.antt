use Rattle.std.proofs.Common.{◌≡◌, ℕ, List, [], ◌∷◌, ◌++◌, sym, ◌∙◌, ap, subst}
use Rattle.crsm_base.specs.Records.{SpeltBody}
use Rattle.crsm_spec.specs.Types.{Rec}
use Rattle.crsm_spec.specs.Log.{Log}
use Rattle.crsm_spec.specs.Node.{Turn, outputs}
use Rattle.crsm_spec.specs.Step.{boot}
use Rattle.crsm_spec.specs.World.{Site, final_line}
use Rattle.crsm_ledger.specs.Recovered.{AreKept, with_records}
use Rattle.crsm_schedule.specs.Transcript.{line_text}
use Rattle.crsm_replica_rerun.specs.Sheets.{replica_after}
use Rattle.crsm_replica_rerun.specs.Texts.{shown_text}
use Rattle.crsm_replica_rerun.proofs.laws.sheets_have_one_text.Goals as goal

-- bodies hold one log
one_log : ((a b : List Rec) (s : List ℕ) → SpeltBody a s → SpeltBody b s → a ≡ b) → (me n : ℕ) (log : Log) (bodies : List (List ℕ)) (a b : Log)
    → AreKept me n log bodies a → AreKept me n log bodies b → a ≡ b
one_log one me n log [] a b p q = p ∙ sym q
one_log one me n log (body ∷ bodies) a b p q =
    let same = one p.0 q.0 body p.1 q.1 in
    one_log one me n (with_records log p.0) bodies a b p.3 (subst (λ (recs : List Rec). AreKept me n (with_records log recs) bodies b) (sym same) q.3)

pub returns : goal.returns
returns c = λ me n first lines a b p q.
    let text : Log → List (Turn × ℕ) → List ℕ = λ log turns.
    shown_text first lines (outputs me n log turns) ++ line_text 0 (final_line (me, Site.Up (replica_after (boot me n log).replica turns))) in
    let s = p.sheet in
    let t = q.sheet in
    let parts = c.sheets_are_one.ensures.turns s.bodies t.bodies s.turns t.turns (sym s.is ∙ t.is) in
    let logs : s.log ≡ t.log = one_log c.one_spelling_each.ensures.body_has_one me n [] s.bodies s.log t.log s.kept (subst (λ (bs : List (List ℕ)). AreKept me n [] bs t.log) (sym parts.0) t.kept) in
    p.is ∙ ap (λ (log : Log). text log s.turns) logs ∙ ap (λ (ts : List (Turn × ℕ)). text t.log ts) parts.1 ∙ sym q.is
