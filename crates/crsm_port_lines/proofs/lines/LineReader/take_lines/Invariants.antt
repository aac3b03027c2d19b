use Rattle.std.proofs.Common.{◌≤◌, ◌+◌, length}
use Rattle.crsm_port_lines.specs.Run.{CarriesOn}
use Rattle.crsm_port_lines.specs.State.{state_of}
use Rattle.crsm_port_lines.proofs.lines.LineReader.take_lines.Given as goal

abbrev pub invariant-loop-tail : goal.invariant-loop-tail
invariant-loop-tail g l = record {
  carries : (first : g.row.H.Denot) → CarriesOn (g.H.Handler.handling first) (g.O.Sink.written l.fn.output) (g.O.Sink.written l.output) (state_of l.fn.self) (state_of l.self) l.piece l.rest;
  number : l.self.number + length l.rest ≤ l.fn.self.number + length l.piece;
  later : g.O.Sink.faults l.fn.output ≤ g.O.Sink.faults l.output;
}

abbrev pub decreases-loop-tail : goal.decreases-loop-tail
decreases-loop-tail g l = length l.rest
