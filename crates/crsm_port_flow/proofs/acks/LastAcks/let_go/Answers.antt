use Rattle.std.proofs.Common.{List, inl, refl, subst}
use Rattle.crsm_port.specs.Passing.{NoMore}
use Rattle.crsm_port_flow.proofs.Sendings.{ack_goes, all_went, held_goes, here, none_held_still}
use Rattle.crsm_port_flow.specs.Acks.{sent_with}
use Rattle.crsm_port_flow.specs.declared.acks.Ack.{Ack}
use Rattle.crsm_port_flow.proofs.acks.LastAcks.let_go.Goals as goal

pub loop-ack-init : goal.loop-ack-init
loop-ack-init g c = record {
  each = refl;
  gives = λ a b h. h;
  sends = λ a b h. inl (inl h);
}

pub loop-ack-preserved : goal.loop-ack-preserved
loop-ack-preserved g c =
    let acks = c.deref-ack-items.result.now in
    let k = c.loop-ack.ack-index in
    let start = c.args.port.now in
    let before = c.loop-ack.port in
    let after = c.send.new.self in
    let inv = c.loop-ack.invariant in
    let at = here acks k _ c.loop-ack-test.true in
    record {
      each = ack_goes acks k _ c.datagram.result.now (g.P.Port.meaning start) (g.P.Port.meaning before) (g.P.Port.meaning after) c.send.result c.loop-ack-test.true at c.datagram.ensures inv.each c.send.ensures.sends;
      gives = λ a b h. inv.gives a b (c.send.ensures.passes_on.no_more_given a b h);
      sends = held_goes (g.P.Port.may_send start) (g.P.Port.may_send before) (g.P.Port.may_send after) acks k _ c.datagram.result.now c.loop-ack-test.true at c.datagram.ensures inv.sends c.send.ensures.passes_on.one_more_sent;
    }

pub returns-clause-each : goal.returns-clause-each
returns-clause-each g c =
    let acks = c.deref-ack-items.result.now in
    let went = all_went acks c.loop-ack.ack-index (g.P.Port.meaning c.args.port.now) (g.P.Port.meaning c.loop-ack.port) c.loop-ack-test.false c.loop-ack.invariant.each in
    rw c.deref-ack-items.ensures.value at went

pub returns-clause-gives : goal.returns-clause-gives
returns-clause-gives g c = c.loop-ack.invariant.gives

pub returns-clause-sends : goal.returns-clause-sends
returns-clause-sends g c =
    none_held_still (g.P.Port.may_send c.args.port.now) (g.P.Port.may_send c.loop-ack.port) c.args.self.now.acks.items c.clear.new.self.items c.clear.ensures.items
    (subst (λ (acks : List Ack). NoMore (sent_with (g.P.Port.may_send c.args.port.now) acks) (g.P.Port.may_send c.loop-ack.port)) c.deref-ack-items.ensures.value c.loop-ack.invariant.sends)
