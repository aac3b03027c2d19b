use Rattle.std.proofs.Common.{◌≡◌, take}
use Rattle.crsm_cmd_soak.specs.Counting.{greatest, executed_in}
use Rattle.crsm_cmd_soak.proofs.counting.greatest_executed.Given as goal

abbrev pub invariant-loop-line : goal.invariant-loop-line
invariant-loop-line l = l.greatest ≡ greatest executed_in (take l.line-index l.lines)
