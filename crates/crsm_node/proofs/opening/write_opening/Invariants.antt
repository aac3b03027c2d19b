use Rattle.std.proofs.Common.{length, ◌-◌, ◌≤◌}
use Rattle.crsm_io.specs.Streams.{Puts}
use Rattle.crsm_node.specs.Running.{entries_text}
use Rattle.crsm_node.proofs.opening.write_opening.Given as goal

abbrev pub invariant-loop-index : goal.invariant-loop-index
invariant-loop-index g l = record {
  within : l.index ≤ length l.bodies;
  put : Puts (g.O.Sink.written l.fn.sheet) (g.O.Sink.written l.sheet) (entries_text l.bodies l.index);
  later : g.O.Sink.faults l.fn.sheet ≤ g.O.Sink.faults l.sheet;
}

abbrev pub decreases-loop-index : goal.decreases-loop-index
decreases-loop-index g l = length l.bodies - l.index
