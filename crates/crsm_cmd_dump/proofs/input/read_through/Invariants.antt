use Rattle.std.proofs.Common.{◌≤◌, ◌-◌, length}
use Rattle.crsm_io.specs.Streams.{Takes}
use Rattle.crsm_cmd_dump.proofs.input.read_through.Given as goal

abbrev pub invariant-loop-count : goal.invariant-loop-count
invariant-loop-count g l = record {
  takes : Takes (g.I.Source.left l.fn.input) (g.I.Source.left l.input) l.file.items;
  within : length l.file.items ≤ 4294967296;
  later : g.I.Source.faults l.fn.input ≤ g.I.Source.faults l.input;
}

abbrev pub decreases-loop-count : goal.decreases-loop-count
decreases-loop-count g l = 4294967296 - length l.file.items
