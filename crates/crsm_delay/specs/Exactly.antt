-- The plans that are done, and the lines for which others are refused.
use Rattle.std.specs.Prelude.{ℕ, Option}
use Rattle.crsm_port_lines.specs.Exact.{Exact, IsDone, IsRefused, IsTooLong, WhereBad, WhereFaultless, WhereTooLong, WhereWhole}
use Rattle.crsm_port_lines.specs.Handling.{Text}
use Rattle.crsm_port_lines.specs.declared.InputEnd.{InputEnd}
use Rattle.crsm_delay.specs.Reading.{plans_of}
use Rattle.crsm_delay.specs.declared.handling.PlanCause.{PlanCause}
use Rattle.crsm_delay.specs.declared.handling.Wanted.{Wanted}

-- If no fault of the input or of the output was counted: a whole plan is done, the first bad line is refused, and an
-- input beyond the limit is too long. `left` is the rest of the input.
pub record EndsExactly (wanted : Wanted) (left : Option Text) (in_old in_new out_old out_new : ℕ) (result : InputEnd PlanCause) : Type 0 where
  pub complete : (x : Exact (plans_of wanted)) → WhereWhole (plans_of wanted) x left (WhereFaultless in_old in_new out_old out_new (IsDone result))
  pub refused : (x : Exact (plans_of wanted)) → WhereBad (plans_of wanted) x left (λ line why. WhereFaultless in_old in_new out_old out_new (IsRefused (plans_of wanted) x line why result))
  pub too_long : (x : Exact (plans_of wanted)) → WhereTooLong (plans_of wanted) x left (WhereFaultless in_old in_new out_old out_new (IsTooLong result))
