use Rattle.std.proofs.Common.{◌∙◌, inl, inr, refl, take}
use Rattle.crsm_port_flow.proofs.Flows.{came_up, given_after, kept_same, no_more_then}
use Rattle.crsm_port_flow.specs.Kept.{given_by}
use Rattle.crsm_port_flow.proofs.Reading.{asked_stays, came_in, failed_same, kept_as_it_is}
use Rattle.crsm_port_flow.proofs.flow.FlowPort.read_one.Goals as goal

pub returns-in-Ok-Datagram-clause-gives : goal.returns-in-Ok-Datagram-clause-gives
returns-in-Ok-Datagram-clause-gives g c =
    let p = c.args.self.now in
    let a = c.arrived.new.self in
    let q = c.take_in.new.self in
    let first = given_by (g.P.Port.gives p.port) p.inbound in
    let stays = kept_same p.inbound a.inbound c.arrived.ensures.inbound in
    let up = rw c.in-Ok-Datagram.field-0-is at c.in-Ok-Datagram.ensures.given in
    let before = given_after g.P.Port.gives g.P.Port.may_send first p.port p.port p.inbound a.inbound (λ x y h. h) (λ x y h. h) stays in
    let more = came_up g.P.Port.gives g.P.Port.may_send p.port a.port q.port a.inbound q.inbound c.in-Ok-Datagram.from (take c.in-Ok-Datagram.len a.room.items) c.arrived.ensures.gives c.take_in.ensures.port up c.take_in.ensures.kept in
    no_more_then first (given_by (g.P.Port.gives p.port) a.inbound) (given_by (g.P.Port.gives q.port) q.inbound) before more

pub returns-in-Ok-Nothing-clause-gives : goal.returns-in-Ok-Nothing-clause-gives
returns-in-Ok-Nothing-clause-gives g c =
    let p = c.args.self.now in
    let a = c.arrived.new.self in
    given_after g.P.Port.gives g.P.Port.may_send (given_by (g.P.Port.gives p.port) p.inbound) p.port a.port p.inbound a.inbound (λ x y h. h) c.arrived.ensures.gives (kept_same p.inbound a.inbound c.arrived.ensures.inbound)

pub returns-in-Err-clause-gives : goal.returns-in-Err-clause-gives
returns-in-Err-clause-gives g c =
    let p = c.args.self.now in
    let a = c.arrived.new.self in
    given_after g.P.Port.gives g.P.Port.may_send (given_by (g.P.Port.gives p.port) p.inbound) p.port a.port p.inbound a.inbound (λ x y h. h) c.arrived.ensures.gives (kept_same p.inbound a.inbound c.arrived.ensures.inbound)

pub returns-then-self-clause-reads : goal.returns-then-self-clause-reads
returns-then-self-clause-reads g c = ((kept_as_it_is c.args.self.now.inbound, (refl, refl, refl)), inl (refl, c.if-self.true, c.if-self.true))

pub returns-in-Ok-Datagram-clause-reads : goal.returns-in-Ok-Datagram-clause-reads
returns-in-Ok-Datagram-clause-reads g c =
    let p = c.args.self.now in
    let a = c.arrived.new.self in
    let q = c.take_in.new.self in
    let t = c.take_in.ensures in
    let receives = rw c.in-Ok-Datagram.field-0-is at c.in-Ok-Datagram.ensures.answers in (
      _,
      came_in g.P.Port.meaning p a q c.in-Ok-Datagram.from c.in-Ok-Datagram.len c.arrived.ensures.same t.same c.arrived.ensures.room receives t.comes t.known t.me t.window,
      failed_same a q t.same ∙ c.in-Ok-Datagram.ensures.ready,
    )

pub returns-in-Ok-Nothing-clause-reads : goal.returns-in-Ok-Nothing-clause-reads
returns-in-Ok-Nothing-clause-reads g c =
    let p = c.args.self.now in
    let a = c.arrived.new.self in
    let receives = rw c.in-Ok-Nothing.field-0-is at c.in-Ok-Nothing.ensures.answers in
    (asked_stays (g.P.Port.meaning p.port) (g.P.Port.meaning a.port) p a c.arrived.ensures.same c.arrived.ensures.room, inr (inl ((p.room.items, a.room.items, receives), c.in-Ok-Nothing.ensures.ready)))

pub returns-in-Err-clause-reads : goal.returns-in-Err-clause-reads
returns-in-Err-clause-reads g c =
    let p = c.args.self.now in
    let a = c.arrived.new.self in (
      asked_stays (g.P.Port.meaning p.port) (g.P.Port.meaning a.port) p a c.arrived.ensures.same c.arrived.ensures.room,
      elim c.in-Err.ensures.answers [
        | inl receives ↦ inr (inr (_, (p.room.items, a.room.items, receives), refl))
        | inr failed ↦ inl (failed.0, failed.1, refl)
      ],
    )
