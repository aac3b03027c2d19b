use Rattle.std.proofs.Common.{◌≤◌, take, ◌*◌}
use Rattle.crsm_wire.specs.Sized.{AreSized}
use Rattle.crsm_wire.proofs.entries.total_size.Given as goal

abbrev pub invariant-loop-entry : goal.invariant-loop-entry
invariant-loop-entry l = AreSized (take l.entry-index l.entries) l.total × (l.total ≤ 1129 * l.entry-index)
