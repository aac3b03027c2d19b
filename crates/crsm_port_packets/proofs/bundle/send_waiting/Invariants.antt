use Rattle.std.proofs.Common.{◌≤◌, take}
use Rattle.std.specs.Prelude.{vec_capacity}
use Rattle.crsm_port.specs.Passing.{NoMore}
use Rattle.crsm_port.specs.Sent.{packets_of}
use Rattle.crsm_port_packets.specs.Carrying.{carried}
use Rattle.crsm_port_packets.specs.Sent.{IsFilled, sent_with}
use Rattle.crsm_port_packets.proofs.Goings.{SoFar}
use Rattle.crsm_port_packets.proofs.bundle.send_waiting.Given as goal

-- what went out waited, and so did what is in the packet; and what waited for the address up to here is there or went
abbrev pub invariant-loop-index : goal.invariant-loop-index
invariant-loop-index g l = record {
  gives : NoMore (g.P.Port.gives l.initial.port) (g.P.Port.gives l.port);
  sends : NoMore (sent_with (g.P.Port.may_send l.initial.port) (packets_of l.waiting)) (carried (g.P.Port.may_send l.port));
  filled : IsFilled l.to (packets_of l.waiting) l.packet.items;
  so_far : SoFar l.to (take l.index (packets_of l.waiting)) (packets_of l.waiting) l.packet.items (g.P.Port.meaning l.initial.port) (g.P.Port.meaning l.port);
  roomy : 1_236 ≤ vec_capacity l.packet;
}
