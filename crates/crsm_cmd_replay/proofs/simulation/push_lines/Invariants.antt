use Rattle.std.proofs.Common.{◌≡◌, ◌++◌, drop}
use Rattle.crsm_schedule.specs.Transcript.{lines_text}
use Rattle.crsm_cmd_replay.proofs.simulation.push_lines.Given as goal

-- the texts before and those to come are all of them
abbrev pub invariant-loop-line : goal.invariant-loop-line
invariant-loop-line l = l.text ++ lines_text l.at (drop l.line-index l.line-items) ≡ l.fn.text ++ lines_text l.at l.lines
