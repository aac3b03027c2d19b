use Rattle.std.proofs.Common.{inr, refl}
use Rattle.crsm_port_flow.proofs.Flows.{goes, waits}
use Rattle.crsm_port_flow.proofs.flow.FlowPortPort.send.Goals as goal

pub returns-then-not-may_go-clause-passes_on : goal.returns-then-not-may_go-clause-passes_on
returns-then-not-may_go-clause-passes_on g c =
    let p = c.args.self.now in
    waits g.P.Port.gives g.P.Port.may_send p.port p.port p.inbound c.note_sent.new.self p.outbound.acks.acks.items p.outbound.acks.acks.items c.may_go.new.self.acks.acks.items c.args.to
    c.args.bytes.now refl c.note_sent.ensures.rest refl c.may_go.ensures.held

pub returns-then-not-may_go-clause-goes : goal.returns-then-not-may_go-clause-goes
returns-then-not-may_go-clause-goes g c = let (waits, noted) = c.may_go.ensures.later c.if-not-may_go.true in inr (refl, (refl, waits, noted))

pub returns-in-Ok-clause-passes_on : goal.returns-in-Ok-clause-passes_on
returns-in-Ok-clause-passes_on g c =
    let p = c.args.self.now in
    goes g.P.Port.gives g.P.Port.may_send p.port p.port c.send.new.self p.inbound c.note_sent.new.self p.outbound.acks.acks.items p.outbound.acks.acks.items c.may_go.new.self.acks.acks.items c.args.to
    c.args.bytes.now refl c.note_sent.ensures.rest refl c.may_go.ensures.held c.send.ensures.passes_on

pub returns-in-Err-clause-passes_on : goal.returns-in-Err-clause-passes_on
returns-in-Err-clause-passes_on g c =
    let p = c.args.self.now in
    goes g.P.Port.gives g.P.Port.may_send p.port p.port c.send.new.self p.inbound c.note_sent.new.self p.outbound.acks.acks.items p.outbound.acks.acks.items c.may_go.new.self.acks.acks.items c.args.to
    c.args.bytes.now refl c.note_sent.ensures.rest refl c.may_go.ensures.held c.send.ensures.passes_on
