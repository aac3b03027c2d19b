use Rattle.std.proofs.Common.{length, take, drop}
use Rattle.crsm_port.proofs.Clusters.{came}
use Rattle.crsm_port.proofs.Passings.{given_more, own_given, sent_more}
use Rattle.crsm_port.proofs.cluster.recv_wrapped.Goals as goal

pub returns-in-Ok-Datagram-clause-receives : goal.returns-in-Ok-Datagram-clause-receives
returns-in-Ok-Datagram-clause-receives g c = λ too_long.
    came c.args.cluster too_long _ _ c.args.wire.now c.recv.new.buf c.args.buf.now c.copy-len.new.buf c.own_bytes.result.now c.in-Ok-Datagram.from c.in-Ok-Datagram.len c.copy-len.result c.requires.cluster
    c.requires.room (rw (c.in-Ok-Datagram.is, c.in-Ok-Datagram.field-0-is) at c.recv.ensures.receives) c.own_bytes.ensures c.copy-len.ensures.len c.copy-len.ensures.bytes

pub returns-in-Ok-Datagram-clause-hands_up : goal.returns-in-Ok-Datagram-clause-hands_up
returns-in-Ok-Datagram-clause-hands_up g c =
    let cluster = c.args.cluster in
    let before = c.args.inner.now in
    let after = c.recv.new.self in
    let e = c.recv.ensures.hands_up in
    let came = rw (c.in-Ok-Datagram.is, c.in-Ok-Datagram.field-0-is) at e.given in
    record {
      given = own_given cluster (g.P.Port.gives before) (length c.args.buf.now) c.copy-len.result c.in-Ok-Datagram.from (take c.in-Ok-Datagram.len c.recv.new.buf) c.own_bytes.result.now c.copy-len.new.buf
          (drop c.copy-len.result c.args.buf.now) c.requires.cluster came c.own_bytes.ensures c.copy-len.ensures.len c.copy-len.ensures.bytes;
      no_more_given = given_more cluster (g.P.Port.gives before) (g.P.Port.gives after) e.no_more_given;
      no_more_sent = sent_more cluster (g.P.Port.may_send before) (g.P.Port.may_send after) e.no_more_sent;
    }
