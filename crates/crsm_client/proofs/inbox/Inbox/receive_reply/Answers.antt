use Rattle.std.proofs.Common.{◌≡◌, ◌∙◌, ◌+◌, List, ℕ, length, drop, ap, arith}
use Rattle.crsm_wire.specs.Marks.{mark_in}
use Rattle.crsm_client.proofs.Receiving.{brings, brings_nothing, in_buffer, starves}
use Rattle.crsm_client.proofs.inbox.Inbox.receive_reply.Goals as goal

pub returns-in_err-reply_in-in-Ok-Datagram-clause-brings :
    goal.returns-in_err-reply_in-in-Ok-Datagram-clause-brings
returns-in_err-reply_in-in-Ok-Datagram-clause-brings g c =
    let room : length c.deref_mut.result.now ≡ 8192 + length (mark_in c.args.self.now.cluster) =
    omega (arith, ap (λ (l : List ℕ). length l) c.deref_mut.ensures.value, c.args.self.now.room, ap (λ (l : List ℕ). length l) c.args.self.now.marked) in
    let own = in_buffer c.args.self.now.cluster c.in-Ok-Datagram.len c.args.self.now.buffer.len c.behind_mark-bytes.result.now c.as_slice.result.now c.args.self.now.mark c.deref.result.now
    c.recv.new.buf (drop (length c.recv.new.buf) c.args.self.now.buffer.items) c.behind_mark-bytes.ensures c.as_slice.ensures c.args.self.now.marked c.deref.ensures.value
    (c.recv.auto.buf ∙ c.deref_mut.ensures.len) in
    starves c.args.self.now.cluster c.in-Ok-Datagram.from c.in-Ok-Datagram.len _ _ _ c.recv.new.buf c.behind_mark-bytes.result.now
    (rw (c.in-Ok-Datagram.is, c.in-Ok-Datagram.field-0-is) at c.recv.ensures.receives) room own c.args.to c.args.command.now c.from_residual.result c.from_residual.ensures.1

pub returns-in_ok-reply_in-in-Ok-Datagram-clause-brings :
    goal.returns-in_ok-reply_in-in-Ok-Datagram-clause-brings
returns-in_ok-reply_in-in-Ok-Datagram-clause-brings g c =
    let room : length c.deref_mut.result.now ≡ 8192 + length (mark_in c.args.self.now.cluster) =
    omega (arith, ap (λ (l : List ℕ). length l) c.deref_mut.ensures.value, c.args.self.now.room, ap (λ (l : List ℕ). length l) c.args.self.now.marked) in
    let own = in_buffer c.args.self.now.cluster c.in-Ok-Datagram.len c.args.self.now.buffer.len c.behind_mark-bytes.result.now c.as_slice.result.now c.args.self.now.mark c.deref.result.now
    c.recv.new.buf (drop (length c.recv.new.buf) c.args.self.now.buffer.items) c.behind_mark-bytes.ensures c.as_slice.ensures c.args.self.now.marked c.deref.ensures.value
    (c.recv.auto.buf ∙ c.deref_mut.ensures.len) in
    brings c.args.self.now.cluster c.in-Ok-Datagram.from c.in-Ok-Datagram.len _ _ _ c.recv.new.buf c.behind_mark-bytes.result.now
    (rw (c.in-Ok-Datagram.is, c.in-Ok-Datagram.field-0-is) at c.recv.ensures.receives) room own c.args.to c.args.command.now c.in_ok-reply_in-in-Ok-Datagram.field-0
    c.in_ok-reply_in-in-Ok-Datagram.ensures

pub returns-in-Ok-Nothing-clause-brings : goal.returns-in-Ok-Nothing-clause-brings
returns-in-Ok-Nothing-clause-brings g c =
    brings_nothing c.args.self.now.cluster c.args.to c.args.command.now _ _ _ _ (rw (c.in-Ok-Nothing.is, c.in-Ok-Nothing.field-0-is) at c.recv.ensures.receives)
