use Rattle.std.proofs.Common.{◌≡◌, ◌++◌, take}
use Rattle.std.specs.List.{flat_map}
use Rattle.crsm_schedule.specs.Transcript.{line_text}
use Rattle.crsm_replica_rerun.proofs.text.push_lines.Given as goal

-- the lines before are appended
abbrev pub invariant-loop-line : goal.invariant-loop-line
invariant-loop-line l = l.out ≡ l.initial.out ++ flat_map (line_text l.at) (take l.line-index l.lines)
