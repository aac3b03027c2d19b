use Rattle.std.proofs.Common.{◌∙◌, refl, take}
use Rattle.crsm_port_flow.proofs.Flows.{came_up, given_after, kept_same, no_more_of, no_more_then}
use Rattle.crsm_port_flow.proofs.Keepings.{asked_same, kept_given, of_more}
use Rattle.crsm_port_flow.specs.Kept.{given_by, kept_in}
use Rattle.crsm_port_flow.specs.declared.inbound.Inbound.{Inbound}
use Rattle.crsm_port_flow.proofs.Reading.{asks_came, asks_failed, asks_none, failed_same}
use Rattle.crsm_port_flow.proofs.flow.FlowPort.receive_one.Goals as goal

pub returns-in-Ok-Datagram-clause-gives : goal.returns-in-Ok-Datagram-clause-gives
returns-in-Ok-Datagram-clause-gives g c =
    let p = c.args.self.now in
    let a = c.arrived.new.self in
    let q = c.take_in.new.self in
    let first = given_by (g.P.Port.gives p.port) p.inbound in
    let mid : Inbound = record p.inbound { clients = c.next-asked.new.self } in
    let stays = no_more_then (kept_in p.inbound) (kept_in mid) (kept_in a.inbound) (asked_same p.inbound mid refl c.next-asked.ensures.waiting c.next-asked.ensures.operate) (kept_same mid a.inbound c.arrived.ensures.inbound) in
    let up = rw c.in-Ok-Datagram.field-0-is at c.in-Ok-Datagram.ensures.given in
    let before = given_after g.P.Port.gives g.P.Port.may_send first p.port p.port p.inbound a.inbound (λ x y h. h) (λ x y h. h) stays in
    let more =
    came_up g.P.Port.gives g.P.Port.may_send p.port a.port q.port a.inbound q.inbound c.in-Ok-Datagram.from (take c.in-Ok-Datagram.len a.room.items) c.arrived.ensures.gives c.take_in.ensures.port up c.take_in.ensures.kept in
    no_more_then first (given_by (g.P.Port.gives p.port) a.inbound) (given_by (g.P.Port.gives q.port) q.inbound) before more

pub returns-in-Ok-Nothing-clause-given : goal.returns-in-Ok-Nothing-clause-given
returns-in-Ok-Nothing-clause-given g c =
    let p = c.args.self.now in
    let a = c.arrived.new.self in
    let first = given_by (g.P.Port.gives p.port) p.inbound in
    let mid : Inbound = record p.inbound { clients = c.next-asked.new.self } in
    let stays = no_more_then (kept_in p.inbound) (kept_in mid) (kept_in a.inbound) (asked_same p.inbound mid refl c.next-asked.ensures.waiting c.next-asked.ensures.operate) (kept_same mid a.inbound c.arrived.ensures.inbound) in
    let before = given_after g.P.Port.gives g.P.Port.may_send first p.port a.port p.inbound a.inbound (λ x y h. h) c.arrived.ensures.gives stays in
    of_more first (given_by (g.P.Port.gives a.port) a.inbound) c.last.new.buf c.last.result before (kept_given (g.P.Port.gives a.port) a.inbound c.last.new.buf c.last.result c.last.ensures.kept)

pub returns-in-Ok-Nothing-clause-gives : goal.returns-in-Ok-Nothing-clause-gives
returns-in-Ok-Nothing-clause-gives g c =
    let p = c.args.self.now in
    let a = c.arrived.new.self in
    let n = c.last.new.self in
    let first = given_by (g.P.Port.gives p.port) p.inbound in
    let mid : Inbound = record p.inbound { clients = c.next-asked.new.self } in
    let stays = no_more_then (kept_in p.inbound) (kept_in mid) (kept_in a.inbound) (asked_same p.inbound mid refl c.next-asked.ensures.waiting c.next-asked.ensures.operate) (kept_same mid a.inbound c.arrived.ensures.inbound) in
    let before = given_after g.P.Port.gives g.P.Port.may_send first p.port a.port p.inbound a.inbound (λ x y h. h) c.arrived.ensures.gives stays in
    given_after g.P.Port.gives g.P.Port.may_send first a.port n.port a.inbound n.inbound before (no_more_of g.P.Port.gives a.port n.port c.last.ensures.port) c.last.ensures.rest

pub returns-in-Err-clause-gives : goal.returns-in-Err-clause-gives
returns-in-Err-clause-gives g c =
    let p = c.args.self.now in
    let a = c.arrived.new.self in
    let first = given_by (g.P.Port.gives p.port) p.inbound in
    let mid : Inbound = record p.inbound { clients = c.next-asked.new.self } in
    let stays = no_more_then (kept_in p.inbound) (kept_in mid) (kept_in a.inbound) (asked_same p.inbound mid refl c.next-asked.ensures.waiting c.next-asked.ensures.operate) (kept_same mid a.inbound c.arrived.ensures.inbound) in
    given_after g.P.Port.gives g.P.Port.may_send first p.port a.port p.inbound a.inbound (λ x y h. h) c.arrived.ensures.gives stays

pub returns-in-Ok-Datagram-clause-takes : goal.returns-in-Ok-Datagram-clause-takes
returns-in-Ok-Datagram-clause-takes g c =
    let a = c.arrived.new.self in
    let q = c.take_in.new.self in
    let t = c.take_in.ensures in
    let asked = c.next-asked.ensures in
    let receives = rw c.in-Ok-Datagram.field-0-is at c.in-Ok-Datagram.ensures.answers in
    asks_came g.P.Port.meaning c.args.self.now a c.next-asked.new.self asked.waiting asked.operate c.arrived.ensures.same c.arrived.ensures.room q c.in-Ok-Datagram.from c.in-Ok-Datagram.len t.same receives t.comes t.known t.me t.window

pub returns-in-Ok-Nothing-clause-takes : goal.returns-in-Ok-Nothing-clause-takes
returns-in-Ok-Nothing-clause-takes g c =
    let p = c.args.self.now in
    let a = c.arrived.new.self in
    let asked = c.next-asked.ensures in
    let e = c.last.ensures in
    let receives = rw c.in-Ok-Nothing.field-0-is at c.in-Ok-Nothing.ensures.answers in
    asks_none g.P.Port.meaning p a c.next-asked.new.self asked.waiting asked.operate c.arrived.ensures.same c.arrived.ensures.room c.last.new.self p.has_failed c.args.buf.now c.last.new.buf c.last.result e.same e.port receives e.goes e.stays

pub returns-in-Err-clause-takes : goal.returns-in-Err-clause-takes
returns-in-Err-clause-takes g c =
    let p = c.args.self.now in
    let asked = c.next-asked.ensures in
    asks_failed g.P.Port.meaning p c.arrived.new.self c.next-asked.new.self asked.waiting asked.operate c.arrived.ensures.same c.arrived.ensures.room p.has_failed c.args.buf.now c.args.buf.now _ c.in-Err.ensures.answers

pub returns-in-Ok-Datagram-clause-ready : goal.returns-in-Ok-Datagram-clause-ready
returns-in-Ok-Datagram-clause-ready g c = failed_same c.arrived.new.self c.take_in.new.self c.take_in.ensures.same ∙ c.in-Ok-Datagram.ensures.ready
