use Rattle.std.proofs.Common.{◌≡◌, ◌<◌, false}
use Rattle.crsm_replica_detector.specs.Watching.{Watch}
use Rattle.crsm_spec.specs.Replica.{Replica}
use Rattle.crsm_shell.specs.Words.{has_failed, pending_of}
use Rattle.crsm_node.specs.Devices.{WhereIdle, node_of}
use Rattle.crsm_node.proofs.Serves.{Stage}
use Rattle.crsm_node.proofs.serving.serve.Given as goal

abbrev pub invariant-loop-turn : goal.invariant-loop-turn
invariant-loop-turn g l =
    let start = node_of g.D.Disk.meaning g.P.Port.meaning g.C.Clock.readings g.O.Sink.written g.O.Sink.faults l.fn.shell l.fn.detector l.fn.port l.fn.clock l.fn.sheet in
    let now = node_of g.D.Disk.meaning g.P.Port.meaning g.C.Clock.readings g.O.Sink.written g.O.Sink.faults l.shell l.detector l.port l.clock l.sheet in
    record {
      well : has_failed l.shell ≡ false;
      few : pending_of l.shell < 256;
      stage : WhereIdle start (λ (r : Replica) (w : Watch). Stage r w start now l.pending.lines l.turn l.turns);
    }
