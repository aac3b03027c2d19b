use Rattle.std.proofs.Common.{◌≤◌}
use Rattle.std.specs.Prelude.{vec_capacity}
use Rattle.crsm_port.specs.Passing.{NoMore, either}
use Rattle.crsm_port_packets.specs.Cutting.{SendsFragments, fragments_of}
use Rattle.crsm_port_packets.proofs.cutting.send_fragments.Given as goal

abbrev pub invariant-loop-index : goal.invariant-loop-index
invariant-loop-index g l = record {
  gives : NoMore (g.P.Port.gives l.initial.port) (g.P.Port.gives l.port);
  sends : NoMore (either (g.P.Port.may_send l.initial.port) (fragments_of l.to l.bytes l.name)) (g.P.Port.may_send l.port);
  sent : SendsFragments l.to l.bytes l.name l.count l.index (g.P.Port.meaning l.initial.port) (g.P.Port.meaning l.port);
  roomy : 1_236 ≤ vec_capacity l.packet;
}
