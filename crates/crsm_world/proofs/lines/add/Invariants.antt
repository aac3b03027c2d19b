use Rattle.std.proofs.Common.{◌≡◌, ◌++◌, take}
use Rattle.crsm_world.proofs.lines.add.Given as goal

abbrev pub invariant-loop-line : goal.invariant-loop-line
invariant-loop-line l = l.lines ≡ l.initial.lines ++ take l.line-index l.more
