use Rattle.crsm_port.specs.Passing.{NoMore, either}
use Rattle.crsm_port_flow.proofs.Hearings.{ToldSoFar}
use Rattle.crsm_port_flow.specs.Acks.{SaysHearing}
use Rattle.crsm_port_flow.proofs.hearing.Hearing.say.Given as goal

abbrev pub invariant-loop-replica : goal.invariant-loop-replica
invariant-loop-replica g l = record {
  told : ToldSoFar l.fn.self.me l.replica l.peer-items l.saying (g.P.Port.meaning l.initial.port) (g.P.Port.meaning l.port);
  gives : NoMore (g.P.Port.gives l.initial.port) (g.P.Port.gives l.port);
  sends : NoMore (either (g.P.Port.may_send l.initial.port) SaysHearing) (g.P.Port.may_send l.port);
}
