use Rattle.std.proofs.Common.{◌≡◌, ◌≤◌, ◌-◌, []}
use Rattle.crsm_port_lines.specs.Run.{SoFar}
use Rattle.crsm_port_lines.specs.State.{state_of}
use Rattle.crsm_port_lines.proofs.run.run_through.Given as goal

abbrev pub invariant-loop-count : goal.invariant-loop-count
invariant-loop-count g l = record {
  so_far : SoFar (g.H.Handler.handling l.fn.handler) (g.I.Source.left l.fn.input) (g.I.Source.left l.input) (g.O.Sink.written l.fn.output) (g.O.Sink.written l.output) (state_of l.lines) [] l.total;
  pending : l.lines.pending ≡ [];
  within : l.total ≤ 1073741824;
  number : l.lines.number ≤ l.total;
  read_later : g.I.Source.faults l.fn.input ≤ g.I.Source.faults l.input;
  write_later : g.O.Sink.faults l.fn.output ≤ g.O.Sink.faults l.output;
}

abbrev pub decreases-loop-count : goal.decreases-loop-count
decreases-loop-count g l = 1073741824 - l.total
