use Rattle.std.proofs.Common.{◌≡◌, ◌++◌}
use Rattle.crsm_node.specs.Running.{entries_text}
use Rattle.crsm_node.proofs.opening.lines_from.Given as goal

abbrev pub invariant-loop-index : goal.invariant-loop-index
invariant-loop-index l = entries_text l.bodies l.index ≡ entries_text l.bodies l.first ++ l.lines
