use Rattle.std.proofs.Common.{◌≡◌, take}
use Rattle.std.specs.List.{count_by}
use Rattle.crsm_cmd_soak.specs.Counting.{is_submission}
use Rattle.crsm_cmd_soak.proofs.counting.submissions.Given as goal

abbrev pub invariant-loop-line : goal.invariant-loop-line
invariant-loop-line l = l.count ≡ count_by is_submission (take l.line-index l.lines)
