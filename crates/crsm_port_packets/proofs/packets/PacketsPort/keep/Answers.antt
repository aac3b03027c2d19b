use Rattle.std.proofs.Common.{inr}
use Rattle.crsm_port.specs.Sent.{packets_of}
use Rattle.crsm_port_packets.specs.Sent.{sent_with}
use Rattle.crsm_port_packets.specs.Peers.{addresses_of}
use Rattle.crsm_port_packets.proofs.Counted.{on_err, on_ok, rose_behind}
use Rattle.crsm_port_packets.proofs.Passings.{one_more_than, one_waits, plain_went}
use Rattle.crsm_port_packets.proofs.packets.PacketsPort.keep.Goals as goal

pub returns-in-Ok-clause-sends : goal.returns-in-Ok-clause-sends
returns-in-Ok-clause-sends g c =
    let old = c.args.self.now in
    let mid = c.make_room.new.self in
    let P = g.P.Port.may_send mid.port in
    one_more_than c.args.to c.args.bytes.now (sent_with (g.P.Port.may_send old.port) (packets_of old.waiting)) (sent_with P (packets_of mid.waiting)) (sent_with P (packets_of c.add.new.self)) c.make_room.ensures.sends
    (one_waits P (packets_of mid.waiting) c.args.to c.args.bytes.now (packets_of c.add.new.self) c.in-Ok.ensures.ok)

pub returns-in-Err-clause-sends : goal.returns-in-Err-clause-sends
returns-in-Err-clause-sends g c =
    let old = c.args.self.now in
    let mid = c.make_room.new.self in
    let P = g.P.Port.may_send mid.port in
    let Q = g.P.Port.may_send c.send.new.self in
    one_more_than c.args.to c.args.bytes.now (sent_with (g.P.Port.may_send old.port) (packets_of old.waiting)) (sent_with P (packets_of mid.waiting)) (sent_with Q (packets_of c.add.new.self)) c.make_room.ensures.sends
    (plain_went P Q (packets_of mid.waiting) c.args.to c.args.bytes.now (packets_of c.add.new.self) c.in-Err.ensures.err c.requires c.send.ensures.passes_on.one_more_sent)

pub returns-in-Err-clause-goes : goal.returns-in-Err-clause-goes
returns-in-Err-clause-goes g c =
    let mid = c.make_room.new.self in
    on_ok c.send.result _ (λ ok. (packets_of mid.waiting, g.P.Port.meaning mid.port, c.make_room.ensures.goes, inr (c.in-Err.ensures.err, (c.send.result, ok, c.send.ensures.sends))))

pub returns-in-Err-clause-refused : goal.returns-in-Err-clause-refused
returns-in-Err-clause-refused g c =
    let old = c.args.self.now in
    let mid = c.make_room.new.self in
    on_err c.send.result _ _
    (rose_behind (addresses_of old.peers.items) (packets_of old.waiting) (packets_of mid.waiting) (g.P.Port.meaning old.port) (g.P.Port.meaning mid.port) (g.P.Port.meaning c.send.new.self) c.make_room.ensures.goes)
    c.send.ensures.sends.failed
