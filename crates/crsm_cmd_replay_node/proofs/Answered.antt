-- When a sheet is done, refused for which line and cause, and too long: by the result of the loop over lines.
use Rattle.std.proofs.Common.{◌≡◌, ℕ, ◌+◌, ◌≤◌, inl, inr, ◌++◌, Option, Some, map, length, refl, ap, sym, ◌∙◌, subst}
use Rattle.crsm_port_lines.specs.Exact as loop
use Rattle.crsm_port_lines.specs.Handling.{Text}
use Rattle.crsm_port_lines.specs.declared.InputEnd.{InputEnd}
use Rattle.crsm_text_sheet.specs.Laws.{LinesHaveNoFeed}
use Rattle.crsm_text_sheet.specs.Grammar.{sheet_line_text}
use Rattle.crsm_replica_rerun.specs.Sheets.{steps_of}
use Rattle.crsm_replica_rerun.specs.Texts.{shown_text}
use Rattle.crsm_cmd_replay_node.specs.Handled.{sheet_of_node}
use Rattle.crsm_cmd_replay_node.specs.Refused.{IsReplayed}
use Rattle.crsm_cmd_replay_node.specs.Run.{IsRefused, WhereBad, WhereSheet, WhereTooLong}
use Rattle.crsm_cmd_replay_node.specs.declared.cause.SheetCause.{SheetCause}
use Rattle.crsm_cmd_replay_node.proofs.Exact.{Laws, cause_is, exact, fits, for_loop, may_end}
use Rattle.crsm_cmd_replay_node.proofs.Texts.{are_lines, count, read_is}

module _ (laws : Laws) (no_feed : LinesHaveNoFeed) (me n : ℕ) (result : InputEnd SheetCause) (left : Option Text) where
  pub completed : (P : Type 0) → loop.WhereWhole (sheet_of_node me n) (exact laws me n) left P → WhereSheet me n left P
  completed P loop_says = λ lines fit short sheet left_is within.
      let text = read_is lines in
      let is : IsReplayed me n lines (shown_text 1 lines (steps_of sheet)) =
      record { fit = fit; steps = steps_of sheet; leads = inr (record { sheet = sheet; are = refl }); shown_is = refl } in
      loop_says (map sheet_line_text lines) (fits laws me n lines (shown_text 1 lines (steps_of sheet)) is) (may_end laws me n lines fit sheet)
      (are_lines no_feed me n lines fit short) (left_is ∙ ap (λ (t : Text). Some t) (sym text)) (subst (λ (t : Text). length t ≤ 1073741824) (sym text) within)

  told : (line : ℕ) (why : SheetCause) (cause : SheetCause) → why ≡ cause → loop.IsRefused (sheet_of_node me n) (exact laws me n) line why result → IsRefused line cause result
  told line why cause same (inl named) = inl (record { bad = named.bad; told = sym (cause_is laws me n named.bad) ∙ named.told ∙ same; is = named.is })
  told line why cause same (inr none) = inr none

  pub refused : (Q : Type 0 → Type 0) → ((A B : Type 0) → (A → B) → Q A → Q B)
      → loop.WhereBad (sheet_of_node me n) (exact laws me n) left (λ line why. Q (loop.IsRefused (sheet_of_node me n) (exact laws me n) line why result))
      → WhereBad me n left (λ line cause. Q (IsRefused line cause result))
  refused Q maps loop_says = λ lines shown text more cause is short left_is bad within.
      let whole = read_is lines in
      let b = for_loop laws me n lines shown (Some more) cause text is bad in
      let line_is : length (map sheet_line_text lines) + 1 ≡ length lines + 1 = ap (λ (k : ℕ). k + 1) (count lines) in
      subst (λ (line : ℕ). Q (IsRefused line cause result)) line_is
      (maps (loop.IsRefused (sheet_of_node me n) (exact laws me n) (length (map sheet_line_text lines) + 1) (loop.reason_of (sheet_of_node me n) (exact laws me n) b.why) result)
      (IsRefused (length (map sheet_line_text lines) + 1) cause result)
      (told (length (map sheet_line_text lines) + 1) (loop.reason_of (sheet_of_node me n) (exact laws me n) b.why) cause b.told)
      (loop_says (map sheet_line_text lines) shown text more b.why (fits laws me n lines shown is) (are_lines no_feed me n lines is.fit short)
      (left_is ∙ ap (λ (t : Text). Some (t ++ (text ++ more))) (sym whole)) b.bad (subst (λ (t : Text). length (t ++ text) ≤ 1073741824) (sym whole) within)))

  pub too_long : (P : Type 0) → loop.WhereTooLong (sheet_of_node me n) (exact laws me n) left P → WhereTooLong me n left P
  too_long P loop_says = λ lines shown rest more is short part long some left_is.
      let whole = read_is lines in
      loop_says (map sheet_line_text lines) rest more (fits laws me n lines shown is) (are_lines no_feed me n lines is.fit short) part
      (ap (λ (t : Text). length (t ++ rest)) whole ∙ long) some (left_is ∙ ap (λ (t : Text). Some (t ++ (rest ++ more))) (sym whole))
