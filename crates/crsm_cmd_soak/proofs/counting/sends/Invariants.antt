use Rattle.std.proofs.Common.{◌≡◌, take}
use Rattle.std.specs.List.{count_by}
use Rattle.crsm_cmd_soak.specs.Counting.{is_send}
use Rattle.crsm_cmd_soak.proofs.counting.sends.Given as goal

abbrev pub invariant-loop-line : goal.invariant-loop-line
invariant-loop-line l = l.count ≡ count_by is_send (take l.line-index l.lines)
