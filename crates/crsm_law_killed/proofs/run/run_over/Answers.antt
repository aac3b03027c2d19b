use Rattle.std.proofs.Common.{◌+◌, subst, sym}
use Rattle.crsm_node.specs.Running.{Devices, devices_of}
use Rattle.crsm_law_killed.specs.declared.refused.Refused.{Refused}
use Rattle.crsm_law_killed.specs.Calls.{DiskCall, PortCall, SinkCall}
use Rattle.crsm_law_killed.specs.Handed.{IsMadeOf}
use Rattle.crsm_law_killed.specs.Stopping.{RunsUntilKilled}
use Rattle.crsm_law_killed.proofs.Runs.{refusals_of, until_killed}
use Rattle.crsm_law_killed.proofs.run.run_over.Goals as goal

pub returns-clause-ran : goal.returns-clause-ran
returns-clause-ran g c =
    let old_disk = c.args.disk in
    let old_port = c.args.port in
    let old_sheet = c.args.sheet in
    let disk = c.run_node-end.new.disk in
    let port = c.run_node-end.new.port in
    let clock = c.run_node-end.new.clock in
    let sheet = c.run_node-end.new.sheet in
    let at = devices_of g.D.Disk.meaning g.P.Port.meaning g.C.Clock.readings g.O.Sink.written g.O.Sink.faults in
    let old : Devices = at old_disk.inner old_port.inner c.args.clock old_sheet.inner in
    let Killed : Devices → Type 0 = λ new. RunsUntilKilled c.args.order.now c.refusals-refused.result old new c.run_node-end.result in
    subst (λ (d : g.row.D.Denot). Killed (at d c.into_inner.result clock c.into_inner-3.result)) (sym c.into_inner-2.ensures.inner)
    (subst (λ (p : g.row.P.Denot). Killed (at disk.inner p clock c.into_inner-3.result)) (sym c.into_inner.ensures.inner)
    (subst (λ (o : g.row.O.Denot). Killed (at disk.inner port.inner clock o)) (sym c.into_inner-3.ensures.inner)
    (until_killed c.args.order.now old_disk.refused old_port.receives old_port.sends old_sheet.refused (refusals_of disk.refused port.receives port.sends sheet.refused)
    c.refusals-refused.result old_disk.renewed disk.renewed old (at disk.inner port.inner clock sheet.inner) c.run_node-end.result c.requires.disk c.requires.others
    c.refusals-refused.ensures c.run_node-end.ensures)))

pub returns-clause-disk : goal.returns-clause-disk
returns-clause-disk g c = subst (λ (r : Refused). ∥ IsMadeOf (DiskCall g.D.Disk.meaning) g.KD.Start.is_first g.KD.Start.calls r.disk c.into_inner-2.result ∥₁) (sym c.refusals-refused.ensures)
    c.into_inner-2.ensures.handed

pub returns-clause-port : goal.returns-clause-port
returns-clause-port g c = subst (λ (r : Refused). ∥ IsMadeOf (PortCall g.P.Port.meaning g.P.Port.gives g.P.Port.may_send) g.KP.Start.is_first g.KP.Start.calls (r.receives + r.sends) c.into_inner.result ∥₁)
    (sym c.refusals-refused.ensures) c.into_inner.ensures.handed

pub returns-clause-sheet : goal.returns-clause-sheet
returns-clause-sheet g c = subst (λ (r : Refused). ∥ IsMadeOf (SinkCall g.O.Sink.written g.O.Sink.faults) g.KO.Start.is_first g.KO.Start.calls r.sheet c.into_inner-3.result ∥₁) (sym c.refusals-refused.ensures)
    c.into_inner-3.ensures.handed
