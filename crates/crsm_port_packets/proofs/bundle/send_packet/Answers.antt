use Rattle.crsm_port_packets.proofs.Bundles.{lone_sent}
use Rattle.crsm_port_packets.proofs.Goings.{bundle_goes, lone_goes, not_empty}
use Rattle.crsm_port_packets.proofs.bundle.send_packet.Goals as goal

pub returns-in-Some-clause-sends : goal.returns-in-Some-clause-sends
returns-in-Some-clause-sends g c =
    lone_sent (g.P.Port.may_send c.args.port.now) (g.P.Port.may_send c.send.new.self) c.args.to c.args.packet.now c.requires c.in-Some.bytes.now c.in-Some.ensures.first c.in-Some.ensures.plain
    c.send.ensures.passes_on.one_more_sent

pub returns-in-None-clause-goes : goal.returns-in-None-clause-goes
returns-in-None-clause-goes g c =
    bundle_goes c.args.to c.args.packet.now (g.P.Port.meaning c.args.port.now) (g.P.Port.meaning c.send-in-None.new.self) c.send-in-None.result (not_empty c.args.packet.now c.if-is_empty.ensures) c.send-in-None.ensures.sends

pub returns-in-Some-clause-goes : goal.returns-in-Some-clause-goes
returns-in-Some-clause-goes g c =
    lone_goes c.args.to c.args.packet.now (g.P.Port.meaning c.args.port.now) (g.P.Port.meaning c.send.new.self) c.send.result c.in-Some.bytes.now c.requires c.in-Some.ensures.first c.in-Some.ensures.plain c.send.ensures.sends
