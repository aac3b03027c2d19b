use Rattle.std.proofs.Common.{◌≡◌, ◌++◌, drop}
use Rattle.crsm_schedule.specs.Transcript.{lines_text}
use Rattle.crsm_cmd_soak.proofs.text.push_finals.Given as goal

-- the texts before and those to come are all of them
abbrev pub invariant-loop-line : goal.invariant-loop-line
invariant-loop-line l = l.text ++ lines_text 0 (drop l.line-index l.finals) ≡ l.fn.text ++ lines_text 0 l.finals
