use Rattle.std.proofs.Common.{◌≡◌, List, length}
use Rattle.crsm_port.specs.Meaning.{Packet}
use Rattle.crsm_port.specs.Passing.{NoMore}
use Rattle.crsm_port.specs.Unknown.{unknown}
use Rattle.crsm_port_flow.specs.Kept.{given_by}
use Rattle.crsm_port_flow.specs.Reads.{TakesAll, state_of}
use Rattle.crsm_port_flow.specs.Waits.{NotesNone}
use Rattle.crsm_port_flow.proofs.flow.FlowPort.next.Given as goal

abbrev pub invariant-loop : goal.invariant-loop
invariant-loop g l = record {
  gives : NoMore (given_by (g.P.Port.gives l.initial.self.port) l.initial.self.inbound) (given_by (g.P.Port.gives l.self.port) l.self.inbound);
  sends : NoMore (g.P.Port.may_send l.initial.self.port) (g.P.Port.may_send l.self.port);
  counts : unknown l.self.faults l.self.losses l.self.empties ≡ unknown l.initial.self.faults l.initial.self.losses l.initial.self.empties;
  acks : l.self.outbound.acks ≡ l.initial.self.outbound.acks;
  noted : NotesNone l.initial.self.outbound l.self.outbound;
  takes : (came : List Packet) × TakesAll l.initial.self.now came (state_of (g.P.Port.meaning l.initial.self.port) l.initial.self) (state_of (g.P.Port.meaning l.self.port) l.self) × (length came ≡ l.counter);
  failed : l.self.has_failed ≡ l.initial.self.has_failed;
  now : l.self.now ≡ l.initial.self.now;
  ticks : l.self.ticks ≡ l.initial.self.ticks;
}
