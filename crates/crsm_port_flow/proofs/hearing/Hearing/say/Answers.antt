use Rattle.std.proofs.Common.{◌≤◌, List, ap, arith, inr, length, refl, subst}
use Rattle.crsm_port.specs.Passing.{either}
use Rattle.crsm_port_flow.proofs.Hearings.{ToldSoFar, all_told, got_at, port_not_told, port_told}
use Rattle.crsm_port_flow.proofs.Sendings.{more_still, more_then, says_then}
use Rattle.crsm_port_flow.specs.Acks.{SaysHearing}
use Rattle.crsm_port_flow.specs.declared.hearing.Peer.{Peer}
use Rattle.crsm_port_flow.proofs.hearing.Hearing.say.Goals as goal
use Rattle.crsm_port_flow.proofs.hearing.Hearing.say.Goals.{then-replica-self, else-replica-self}

pub loop-replica-preserved : goal.loop-replica-preserved
loop-replica-preserved g c =
    let start = c.args.port.now in
    let before = c.loop-replica.port in
    let now = c.if-replica-self.port in
    let inv = c.loop-replica.invariant in
    let gives = g.P.Port.gives in
    let sent = g.P.Port.may_send in
    let (high, low, is, _) = c.saying-saying.ensures in
    elim c.if-replica-self.branch [
      | then-replica-self w ↦ record {
        told = port_told g.P.Port.meaning start before w.send.new.self now _ c.deref-peer-items.result.now c.saying-saying.result c.loop-replica.replica w.port-is w.send.result _ _ (got_at c.deref-peer-items.result.now c.loop-replica.replica _ (omega (arith, c.loop-replica-test.true)), refl) inv.told w.send.ensures.sends;
        gives = more_then (gives start) gives before w.send.new.self now w.port-is inv.gives w.send.ensures.passes_on.no_more_given;
        sends = says_then (sent start) sent before w.send.new.self now _ _ _ w.port-is is inv.sends w.send.ensures.passes_on.one_more_sent;
      }
      | else-replica-self w ↦ record {
        told = port_not_told g.P.Port.meaning start before now _ c.deref-peer-items.result.now c.saying-saying.result c.loop-replica.replica w.port-is w.if-replica-self.false inv.told;
        gives = more_still (gives start) gives before now w.port-is inv.gives;
        sends = more_still (either (sent start) SaysHearing) sent before now w.port-is inv.sends;
      }
    ]

pub returns-clause-said : goal.returns-clause-said
returns-clause-said g c =
    let h = c.args.self.now in
    let M = g.P.Port.meaning in
    let k = c.loop-replica.replica in
    let bytes = c.saying-saying.result in
    let same = c.deref-peer-items.ensures.value in
    let told = subst (λ (ps : List Peer). ToldSoFar h.me k ps bytes (M c.args.port.now) (M c.loop-replica.port)) same c.loop-replica.invariant.told in
    let short : length h.peers.items ≤ k = omega (arith, c.loop-replica-test.false, ap (λ (ps : List Peer). length ps) same) in
    let (said, tells, sent) = all_told h.me c.args.now k h.peers.items bytes (M c.args.port.now) (M c.loop-replica.port) c.saying-saying.ensures short told in
    (said, inr (refl, tells), sent)
