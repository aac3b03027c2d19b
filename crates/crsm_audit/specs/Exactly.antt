-- The audits that are done, and the lines for which others are refused.
use Rattle.std.specs.Prelude.{◌≡◌, ℕ, Option}
use Rattle.crsm_port_lines.specs.Exact.{Exact, IsDone, IsRefused, IsTooLong, WhereBad, WhereFaultless, WhereTooLong, WhereWhole}
use Rattle.crsm_port_lines.specs.Handling.{Text}
use Rattle.crsm_port_lines.specs.declared.InputEnd.{InputEnd}
use Rattle.crsm_cmd_replay_node.specs.declared.cause.SheetCause.{SheetCause}
use Rattle.crsm_audit.specs.Handled.{audited}

-- The lines alone determine what is read and what is refused. A line that is too long or cut is refused as unreadable.
pub record IsDecided (n : ℕ) : Type 0 where
  pub exact : Exact (audited n)
  pub unreadable : exact.unreadable ≡ SheetCause.Unreadable

-- If no fault of the input or of the output was counted: a whole audit is done, the first bad line is refused, a bad
-- log at the end, and an input beyond the limit is too long. `left` is the rest of the input.
pub record EndsExactly (n : ℕ) (left : Option Text) (in_old in_new out_old out_new : ℕ) (result : InputEnd SheetCause) : Type 0 where
  pub complete : (x : Exact (audited n)) → WhereWhole (audited n) x left (WhereFaultless in_old in_new out_old out_new (IsDone result))
  pub refused : (x : Exact (audited n)) → WhereBad (audited n) x left (λ line why. WhereFaultless in_old in_new out_old out_new (IsRefused (audited n) x line why result))
  pub too_long : (x : Exact (audited n)) → WhereTooLong (audited n) x left (WhereFaultless in_old in_new out_old out_new (IsTooLong result))
