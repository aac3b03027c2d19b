-- Nothing that is replayed is refused, and nothing is refused for two causes.
use Rattle.std.proofs.Common.{◌≡◌, ℕ, ◌<◌, List, [], ◌∷◌, ◌++◌, Option, map, length, refl, ap, sym, ◌∙◌, subst, arith}
use Rattle.std.specs.Prelude.{codes}
use Rattle.std.specs.List.{AllByRecursion}
use Rattle.crsm_port_lines.specs.Exact.{Exact, Fits, MayEnd, reason_of}
use Rattle.crsm_port_lines.specs.Handling.{Text}
use Rattle.crsm_port_lines.specs.Run as loop
use Rattle.crsm_port_lines.specs.declared.LineRefusal.{LineRefusal}
use Rattle.crsm_ledger.specs.Recovered.{IsBadAt}
use Rattle.crsm_spec.specs.Draft.{Draft}
use Rattle.crsm_text_sheet.specs.declared.line.SheetLine.{SheetLine}
use Rattle.crsm_text_sheet.specs.declared.line.SheetLine.TheVariants.{Open}
use Rattle.crsm_text_sheet.specs.Grammar.{FitsSheetLine, sheet_line_text}
use Rattle.crsm_text_sheet.specs.Laws.{LinesHaveOneText}
use Rattle.crsm_replica_rerun.specs.Laws.{BadLogsAreOne, KeptAreNotBad}
use Rattle.crsm_replica_rerun.specs.Sheets.{HoldBadLog, IsSheet, LeadTo}
use Rattle.crsm_cmd_replay_node.specs.Causes.{cause_in}
use Rattle.crsm_cmd_replay_node.specs.Handled.{sheet_of_node}
use Rattle.crsm_cmd_replay_node.specs.Refused.{BeginsBad, IsReplayed, NoSheetGoesOn, Refused, bad_line, cut_line, long_line}
use Rattle.crsm_cmd_replay_node.specs.declared.cause.SheetCause.{SheetCause}
use Rattle.crsm_cmd_replay_node.proofs.Sheets.{bad_leads_nowhere, begins, one_bodies, open_begins}
use Rattle.crsm_cmd_replay_node.proofs.Texts.{cut, one_lines}

-- what is known of lines, and of bodies that are no log
pub record Laws : Type 0 where
  pub one_text : LinesHaveOneText
  pub kept : KeptAreNotBad
  pub one_bad : BadLogsAreOne

module _ (laws : Laws) (me n : ℕ) where
  -- ---- lines

  -- a line of what leads to steps is not refused
  not_refused : (lines prefix back : List SheetLine) (line : SheetLine) (text : Text) (cause : SheetCause) (steps : List Draft) → LeadTo me n lines steps → lines ≡ prefix ++ line ∷ back
      → FitsSheetLine line → text ≡ sheet_line_text line → Refused me n prefix text cause → ⊥
  not_refused lines prefix back line text SheetCause.Unreadable steps leads is fits text_is refused =
      refused line fits text_is (begins me n lines (prefix ++ line ∷ []) back steps leads (is ∙ split prefix))
    where
      split : (ls : List SheetLine) → ls ++ line ∷ back ≡ (ls ++ line ∷ []) ++ back
      split [] = refl
      split (l ∷ ls) = ap (λ (xs : List SheetLine). l ∷ xs) (split ls)
  not_refused lines prefix back line text (SheetCause.BadLog entry why) steps leads is fits text_is refused =
      let is_open : line ≡ Open = laws.one_text line Open fits tt (sym text_is ∙ refused.0) in
      bad_leads_nowhere laws.kept me n lines prefix back steps entry why leads (is ∙ ap (λ (l : SheetLine). prefix ++ l ∷ back) is_open) refused.1

  -- texts of lines that are replayed fit
  pub fits : (lines : List SheetLine) (shown : Text) → IsReplayed me n lines shown → Fits (sheet_of_node me n) (map sheet_line_text lines)
  fits lines shown is before more text other cause texts_are refused =
      let c = cut lines before more text is.fit texts_are in
      let s = refused.spells in
      let same : s.lines ≡ c.prefix = one_lines laws.one_text s.lines c.prefix s.is.fit c.prefix_fit (sym s.texts_are ∙ c.before_is) in
      not_refused lines c.prefix c.back c.line text cause is.steps is.leads c.is c.line_fits c.text_is
      (subst (λ (ls : List SheetLine). Refused me n ls text cause) same refused.refused)

  -- behind a sheet the input may end
  pub may_end : (lines : List SheetLine) → AllByRecursion FitsSheetLine lines → IsSheet me n lines → MayEnd (sheet_of_node me n) (map sheet_line_text lines)
  may_end lines fit sheet shown cause refused =
      let s = refused.spells in
      let same : s.lines ≡ lines = one_lines laws.one_text s.lines lines s.is.fit fit (sym s.texts_are) in
      refused.no_sheet sheet.bodies sheet.turns (same ∙ sheet.is)

  -- ---- causes

  -- `open` behind bodies is no line that no sheet has
  open_goes_on : (lines : List SheetLine) (text : Text) (entry why : ℕ) → NoSheetGoesOn lines text → text ≡ codes "open" → HoldBadLog me n lines entry why → ⊥
  open_goes_on lines text entry why none is bad = none Open tt is (open_begins lines bad.are.bodies bad.are.is)

  same_bad : (lines : List SheetLine) (e f w v : ℕ) → HoldBadLog me n lines e w → HoldBadLog me n lines f v → SheetCause.BadLog e w ≡ SheetCause.BadLog f v
  same_bad lines e f w v p q =
      let bodies = one_bodies p.are.bodies q.are.bodies (sym p.are.is ∙ q.are.is) in
      let one = laws.one_bad me n q.are.bodies e f w v (subst (λ (bs : List (List ℕ)). IsBadAt me n bs e w) bodies p.bad) q.bad in
      ap (λ (k : ℕ). SheetCause.BadLog k w) one.0 ∙ ap (λ (k : ℕ). SheetCause.BadLog f k) one.1

  one_cause : (lines : List SheetLine) (text : Text) (c d : SheetCause) → Refused me n lines text c → Refused me n lines text d → c ≡ d
  one_cause lines text SheetCause.Unreadable SheetCause.Unreadable p q = refl
  one_cause lines text SheetCause.Unreadable (SheetCause.BadLog f v) p q = absurd (open_goes_on lines text f v p q.0 q.1)
  one_cause lines text (SheetCause.BadLog e w) SheetCause.Unreadable p q = absurd (open_goes_on lines text e w q p.0 p.1)
  one_cause lines text (SheetCause.BadLog e w) (SheetCause.BadLog f v) p q = same_bad lines e f w v p.1 q.1

  long_cause : (lines : List SheetLine) (text : Text) (cause : SheetCause) → Refused me n lines text cause → 16777216 < length text → cause ≡ SheetCause.Unreadable
  long_cause lines text SheetCause.Unreadable refused long = refl
  long_cause lines text (SheetCause.BadLog e w) refused long = let len : length text ≡ 4 = ap length refused.0 in absurd (omega (arith, len, long))

  pub exact : Exact (sheet_of_node me n)
  exact = record {
    unreadable = SheetCause.Unreadable;
    handled = λ replay texts shown after.
        let s = after.spells in subst (Fits (sheet_of_node me n)) (sym s.texts_are) (fits s.lines shown s.is);
    ended = λ texts shown last ends.
        let s = ends.spells in subst (MayEnd (sheet_of_node me n)) (sym s.texts_are) (may_end s.lines s.is.fit ends.whole.sheet);
    one_reason = λ texts shown other text c d p q.
        let same : p.spells.lines ≡ q.spells.lines = one_lines laws.one_text p.spells.lines q.spells.lines p.spells.is.fit q.spells.is.fit (sym p.spells.texts_are ∙ q.spells.texts_are) in
        one_cause q.spells.lines text c d (subst (λ (ls : List SheetLine). Refused me n ls text c) same p.refused) q.refused;
    long_reason = λ texts shown text cause p long. long_cause p.spells.lines text cause p.refused long;
    one_end = λ texts shown other c d p q. p.unreadable ∙ sym q.unreadable;
  }

  -- ---- bad lines

  -- what begins badly does so for the loop over lines
  pub record ForLoop (lines : List SheetLine) (shown : Text) (left : Option Text) (cause : SheetCause) (text : Text) : Type 0 where
    pub why : LineRefusal SheetCause
    pub told : reason_of (sheet_of_node me n) exact why ≡ cause
    pub bad : loop.BeginsBad (sheet_of_node me n) (map sheet_line_text lines) shown left why text

  pub for_loop : (lines : List SheetLine) (shown : Text) (left : Option Text) (cause : SheetCause) (text : Text) → IsReplayed me n lines shown
      → BeginsBad me n lines left cause text → ForLoop lines shown left cause text
  unfolding exact
  for_loop lines shown left cause text is (bad_line b) = record {
    why = LineRefusal.Refused cause;
    told = refl;
    bad = loop.bad_line cause refl (record {
      line = b.line;
      rest = b.rest;
      text_is = b.text_is;
      lacks = b.lacks;
      refused = record { spells = record { lines = lines; texts_are = refl; is = is }; refused = b.refused };
    });
  }
  for_loop lines shown left cause text is (long_line cause_is b) = record { why = LineRefusal.TooLong; told = sym cause_is; bad = loop.long_line refl b }
  for_loop lines shown left cause [] is (cut_line cause_is b) = record {
    why = LineRefusal.Refused SheetCause.Unreadable;
    told = sym cause_is;
    bad = loop.bad_end SheetCause.Unreadable refl (record {
      none = refl;
      ended = b.ended;
      refused = record { spells = record { lines = lines; texts_are = refl; is = is }; no_sheet = b.cut refl; unreadable = refl };
    });
  }
  for_loop lines shown left cause (t ∷ text) is (cut_line cause_is b) = record {
    why = LineRefusal.Cut;
    told = sym cause_is;
    bad = loop.cut_line refl (record { lacks = b.lacks; some = λ e. (cc); ended = b.ended });
  }

  pub cause_is : (bad : LineRefusal SheetCause) → reason_of (sheet_of_node me n) exact bad ≡ cause_in bad
  unfolding exact
  cause_is (LineRefusal.Refused cause) = refl
  cause_is LineRefusal.TooLong = refl
  cause_is LineRefusal.Cut = refl
