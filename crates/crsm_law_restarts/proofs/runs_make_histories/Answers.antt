use Rattle.crsm_node.specs.Running.{devices_of}
use Rattle.crsm_law_restarts.proofs.Nodes.{runs_make_histories}
use Rattle.crsm_law_restarts.proofs.runs_make_histories.Goals as goal

pub returns : goal.returns
returns g c =
    let at = devices_of g.D.Disk.meaning g.P.Port.meaning g.C.Clock.readings g.O.Sink.written g.O.Sink.faults in
    runs_make_histories {S = g.row.D.Denot × g.row.P.Denot × g.row.C.Denot × g.row.O.Denot} (λ s. at s.0 s.1 s.2 s.3) c.processes_are_histories.ensures c.steps_of_processes_are_right.ensures
