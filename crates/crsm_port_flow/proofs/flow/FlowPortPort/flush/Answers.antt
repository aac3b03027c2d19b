use Rattle.std.proofs.Common.{◌++◌, map, subst, sym}
use Rattle.crsm_port.specs.Meaning.{Meaning, SendsAll}
use Rattle.crsm_port_flow.proofs.Flows.{flushed}
use Rattle.crsm_port_flow.proofs.Sendings.{sends_both}
use Rattle.crsm_port_flow.specs.Acks.{packet_of}
use Rattle.crsm_port_flow.proofs.flow.FlowPortPort.flush.Goals as goal

pub returns-clause-goes : goal.returns-clause-goes
returns-clause-goes g c =
    let held = map packet_of c.args.self.now.outbound.acks.acks.items in
    let start = g.P.Port.meaning c.args.self.now.port in
    let (said, says, sent) = c.say.ensures.said in
    let both = sends_both held said start (g.P.Port.meaning c.let_go.new.port) (g.P.Port.meaning c.say.new.port) c.let_go.ensures.each sent in
    (said, says, subst (λ (m : Meaning). SendsAll (held ++ said) start m) (sym c.flush.ensures.same) both)

pub returns-clause-rests : goal.returns-clause-rests
returns-clause-rests g c =
    let p = c.args.self.now in
    flushed g.P.Port.gives g.P.Port.may_send p.port c.let_go.new.port c.say.new.port c.flush.new.self p.inbound p.outbound.acks.acks.items c.let_go.new.self.acks.items c.let_go.ensures.gives c.let_go.ensures.sends c.say.ensures.gives
    c.say.ensures.sends c.flush.ensures.rests.no_more_given c.flush.ensures.rests.no_more_sent
