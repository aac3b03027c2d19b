-- Nothing that an audit takes is refused, and nothing is refused for two reasons.
use Rattle.std.proofs.Common.{◌≡◌, ℕ, List, [], ◌∷◌, ◌++◌, refl, ap, sym, ◌∙◌, subst, append_assoc}
use Rattle.crsm_port_lines.specs.Exact.{Exact, Fits}
use Rattle.crsm_port_lines.specs.Handling.{Text}
use Rattle.crsm_cmd_replay_node.specs.declared.cause.SheetCause.{SheetCause}
use Rattle.crsm_replica_rerun.specs.Laws.{BadLogsAreOne, KeptAreNotBad}
use Rattle.crsm_text_sheet.specs.Laws.{LinesHaveOneText}
use Rattle.crsm_audit.specs.Exactly.{IsDecided}
use Rattle.crsm_audit.specs.Handled.{Ends, MayNotEnd, NoAuditGoesOn, Spells, audited}
use Rattle.crsm_audit.specs.Lines.{BeginAnAudit, IsAnAudit}
use Rattle.crsm_audit.specs.Sheets.{HoldBadLog}
use Rattle.crsm_audit.specs.declared.line.AuditLine.{AuditLine}
use Rattle.crsm_audit.proofs.BadLogs.{no_bad_log, one_bad_log}
use Rattle.crsm_audit.proofs.Spelling.{cut, one_lines}

module _ (one_text : LinesHaveOneText) (kept : KeptAreNotBad) (one_bad : BadLogsAreOne) (n : ℕ) where
  same_lines : (texts : List Text) (a b : Spells texts) → a.lines ≡ b.lines
  same_lines texts a b = one_lines one_text a.lines b.lines a.fit b.fit (sym a.are ∙ b.are)

  -- the lines that an audit begins with are the beginning of one
  begins : (ls prefix back : List AuditLine) (l : AuditLine) → BeginAnAudit ls → ls ≡ prefix ++ l ∷ back → BeginAnAudit (prefix ++ l ∷ [])
  begins ls prefix back l b is = record {
    named = b.named;
    more = back ++ b.more;
    is = append_assoc prefix (l ∷ []) (back ++ b.more) ∙ sym (append_assoc prefix (l ∷ back) b.more) ∙ ap (λ (x : List AuditLine). x ++ b.more) (sym is) ∙ b.is;
  }

  fits : (texts : List Text) → Spells texts → Fits (audited n) texts
  fits texts s before more text shown cause texts_are refused =
      let c = cut s.lines before more text s.fit (sym s.are ∙ texts_are) in
      let r = refused.spells in
      let same : r.lines ≡ c.prefix = one_lines one_text r.lines c.prefix r.fit c.prefix_fit (sym r.are ∙ c.before_is) in
      let none : NoAuditGoesOn c.prefix text = subst (λ (ls : List AuditLine). NoAuditGoesOn ls text) same refused.none in
      none c.line c.line_fits c.text_is (begins s.lines c.prefix c.back c.line s.begin c.is)

  may_end : (texts : List Text) (last : Text) → Ends n texts last → (cause : SheetCause) (t : Spells texts) → MayNotEnd n t.lines cause → ⊥
  may_end texts last e SheetCause.Unreadable t why = why (subst IsAnAudit (same_lines texts e.spells t) e.whole)
  may_end texts last e (SheetCause.BadLog entry reason) t why =
      let same = same_lines texts t e.spells in
      no_bad_log kept one_bad n e.spells.lines e.audited.sheets entry reason e.audited.are (subst (λ (ls : List AuditLine). HoldBadLog n ls entry reason) same why.1)

  one_cause : (ls : List AuditLine) (c d : SheetCause) → MayNotEnd n ls c → MayNotEnd n ls d → c ≡ d
  one_cause ls SheetCause.Unreadable SheetCause.Unreadable p q = refl
  one_cause ls SheetCause.Unreadable (SheetCause.BadLog f v) p q = absurd (p q.0)
  one_cause ls (SheetCause.BadLog e w) SheetCause.Unreadable p q = absurd (q p.0)
  one_cause ls (SheetCause.BadLog e w) (SheetCause.BadLog f v) p q =
      let one = one_bad_log kept one_bad n ls e f w v p.1 q.1 in
      ap (λ (k : ℕ). SheetCause.BadLog k w) one.0 ∙ ap (λ (k : ℕ). SheetCause.BadLog f k) one.1

  exact : Exact (audited n)
  exact = record {
    unreadable = SheetCause.Unreadable;
    handled = λ audit texts shown h. fits texts h.spells;
    ended = λ texts shown last e other cause no. may_end texts last e cause no.spells no.why;
    one_reason = λ texts shown other text c d p q. p.unreadable ∙ sym q.unreadable;
    long_reason = λ texts shown text c p long. p.unreadable;
    one_end = λ texts shown other c d p q.
        one_cause q.spells.lines c d (subst (λ (ls : List AuditLine). MayNotEnd n ls c) (same_lines texts p.spells q.spells) p.why) q.why;
  }

  pub decided : IsDecided n
  unfolding exact
  decided = record { exact = exact; unreadable = refl }
