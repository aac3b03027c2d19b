use Rattle.std.proofs.Common.{◌≡◌, ◌++◌, drop}
use Rattle.crsm_mpreplay.specs.Transcript.{lines_text}
use Rattle.crsm_mpreplay.proofs.simulation.push_lines.Given as goal

-- the texts before and those to come are all of them
abbrev pub invariant-loop-line : goal.invariant-loop-line
invariant-loop-line l = (l.text ++ l.page) ++ lines_text l.at (drop l.line-index l.line-items) ≡ l.fn.text ++ lines_text l.at l.lines
