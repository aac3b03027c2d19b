use Rattle.std.proofs.Common.{arith, sym, ◌∙◌, ap, Some}
use Rattle.crsm_clock.proofs.Times.{issue_spent, issue_next}
use Rattle.crsm_clock.proofs.rising.Rising.would.Goals as goal

pub returns-in_err-least-clause-time : goal.returns-in_err-least-clause-time
returns-in_err-least-clause-time c = c.from_residual.ensures ∙ sym (issue_spent _ _ (omega (arith, c.in_err-least.ensures)))

pub returns-clause-time : goal.returns-clause-time
returns-clause-time c = ap (λ t. Some t) (omega (arith, c.in_ok-least.ensures)) ∙ sym (issue_next _ _ (omega (arith, c.in_ok-least.ensures)))
