use Rattle.std.proofs.Common.{◌≡◌, ◌+◌, ◌≤◌, decimal, length}
use Rattle.crsm_text.proofs.page.digits_of.Given as goal

-- the digits of what is left, and those behind them
abbrev pub invariant-loop-left : goal.invariant-loop-left
invariant-loop-left l = record {
  within : l.left ≤ l.value;
  digits : l.behind + length (decimal l.left) ≡ length (decimal l.value);
}

abbrev pub decreases-loop-left : goal.decreases-loop-left
decreases-loop-left l = l.left
