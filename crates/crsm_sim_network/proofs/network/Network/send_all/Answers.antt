use Rattle.std.proofs.Common.{◌≡◌, ◌<◌, ◌≤◌, ◌∙◌, ◌+◌, ◌++◌, List, get_or, length, map, sym, subst, take, take_all, Some, ap, arith}
use Rattle.std.proofs.lemmas.Option.{slice_get-get_or}
use Rattle.crsm_base.specs.declared.send.Send.{Send}
use Rattle.crsm_spec.specs.World.{packet_of, packets_size, send_lines}
use Rattle.crsm_sim_network.specs.Packets.{NetworkStands, sent_of}
use Rattle.crsm_port.specs.Sent.{packets_of}
use Rattle.crsm_sim_network.proofs.PacketViews.{all_go, no_sent, no_told, sent_next, told_next, text_is}
use Rattle.crsm_sim_network.proofs.network.Network.send_all.Goals as goal

pub loop-i-init : goal.loop-i-init
loop-i-init c packets bytes h spelt = (no_sent c.args.self.now packets bytes c.args.k h, no_told c.args.lines.now c.args.k (length packets))

pub loop-i-preserved : goal.loop-i-preserved
loop-i-preserved c packets bytes h spelt =
    let sends = c.args.sends.now in
    let i = c.loop-i.i in
    let s = c.send-item.result in
    let was = c.loop-i.invariant packets bytes h spelt in
    let step = c.in_ok-send_one.ensures in
    let go = all_go sends (packets_of c.args.sent.now) _ c.args.first _ _ c.len.ensures c.saturating_sub-there.ensures c.min-count.ensures spelt in
    let all : take c.min-count.result sends ≡ sends = take_all c.min-count.result sends (omega (arith, go)) in
    let within : i < length sends = subst (λ (ss : List Send). i < length ss) all c.loop-i-test.true in
    let is : s ≡ get_or sends i s = c.send-item.is ∙ ap (λ (ss : List Send). get_or ss i s) all in
    let here = slice_get-get_or sends i s within ∙ ap Some (sym is) in
    let text = text_is (packets_of c.args.sent.now) (c.args.first + i) _ _ c.in-Some.ensures.some (spelt i s here) in (
      sent_next _ packets bytes c.args.k sends i s within is (step.network _ _ was.0 text),
      told_next _ _ _ packets c.args.k sends i s within is was.1 (step.lines _ _ was.0 text),
    )

pub returns-clause-network : goal.returns-clause-network
returns-clause-network c packets bytes h spelt =
    let sends = c.args.sends.now in
    let go = all_go sends (packets_of c.args.sent.now) _ c.args.first _ _ c.len.ensures c.saturating_sub-there.ensures c.min-count.ensures spelt in
    let most : length sends ≤ c.loop-i.i = subst (λ (ss : List Send). length ss ≤ c.loop-i.i) (take_all c.min-count.result sends (omega (arith, go))) c.loop-i-test.false in
    subst (λ (ss : List Send). NetworkStands c.loop-i.self (packets ++ map (packet_of c.args.k) (sent_of ss)) (bytes + packets_size (sent_of ss))) (take_all c.loop-i.i sends most) (c.loop-i.invariant packets bytes h spelt).0

pub returns-clause-lines : goal.returns-clause-lines
returns-clause-lines c packets bytes h spelt =
    let sends = c.args.sends.now in
    let go = all_go sends (packets_of c.args.sent.now) _ c.args.first _ _ c.len.ensures c.saturating_sub-there.ensures c.min-count.ensures spelt in
    let most : length sends ≤ c.loop-i.i = subst (λ (ss : List Send). length ss ≤ c.loop-i.i) (take_all c.min-count.result sends (omega (arith, go))) c.loop-i-test.false in
    subst (λ (ss : List Send). c.loop-i.lines ≡ c.args.lines.now ++ send_lines c.args.k (length packets) (sent_of ss)) (take_all c.loop-i.i sends most) (c.loop-i.invariant packets bytes h spelt).1

pub returns-clause-behind : goal.returns-clause-behind
returns-clause-behind c spelt =
    let go = all_go c.args.sends.now (packets_of c.args.sent.now) _ c.args.first _ _ c.len.ensures c.saturating_sub-there.ensures c.min-count.ensures spelt in
    omega (arith, go)
