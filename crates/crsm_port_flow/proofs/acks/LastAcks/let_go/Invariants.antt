use Rattle.std.proofs.Common.{map, take}
use Rattle.crsm_port.specs.Meaning.{SendsAll}
use Rattle.crsm_port.specs.Passing.{NoMore}
use Rattle.crsm_port_flow.specs.Acks.{packet_of, sent_with}
use Rattle.crsm_port_flow.proofs.acks.LastAcks.let_go.Given as goal

abbrev pub invariant-loop-ack : goal.invariant-loop-ack
invariant-loop-ack g l = record {
  each : SendsAll (map packet_of (take l.ack-index l.ack-items)) (g.P.Port.meaning l.initial.port) (g.P.Port.meaning l.port);
  gives : NoMore (g.P.Port.gives l.initial.port) (g.P.Port.gives l.port);
  sends : NoMore (sent_with (g.P.Port.may_send l.initial.port) l.ack-items) (g.P.Port.may_send l.port);
}
