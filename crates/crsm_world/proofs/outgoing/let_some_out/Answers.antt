use Rattle.std.proofs.Common.{◌∙◌, ◌+◌, ◌++◌, take, drop, length, map, min, ap, arith, refl, subst, sym, List}
use Rattle.std.proofs.lemmas.List.{length-take}
use Rattle.crsm_base.specs.declared.send.Send.{Send}
use Rattle.crsm_port.specs.Sent.{packets_of}
use Rattle.crsm_spec.specs.World.{packet_of, packets_size, send_lines}
use Rattle.crsm_sim_network.specs.Packets.{NetworkStands, sent_of}
use Rattle.crsm_world.proofs.Letting.{lets_out, spelt_taken}
use Rattle.crsm_world.proofs.outgoing.let_some_out.Goals as goal

pub returns-clause-stands : goal.returns-clause-stands
returns-clause-stands c packets bytes x h makes spelt =
    let told = c.as_slice-told.result.now in
    let own = c.saturating_sub-own.result in
    let sends = c.as_slice-made.result.now in
    let out = c.min-out.result in
    let k = c.args.k in
    let same = c.as_slice-2.ensures ∙ sym c.as_slice-made.ensures in
    let kept = c.in_ok-keep.ensures packets bytes h in
    let texts = spelt_taken c.args.count out c.as_slice-2.result.now c.args.step.now.batch.sends (packets_of c.args.sent.now) c.args.first c.as_slice-2.ensures (c.min-out.ensures ∙ ap (λ (ss : List Send). min c.args.count (length ss)) c.as_slice-made.ensures) spelt in
    lets_out c.args.lines.now packets bytes k c.args.count x sends told c.packets_in-packets.result own out c.saturating_sub-shown.result c.args.step.now.size c.send_all.new.self (drop own told) c.add_first.new.lines c.send_all.new.lines c.add_replies.new.lines
    (c.as_slice-made.ensures ∙ makes.batch.made.sends) (c.as_slice-told.ensures ∙ makes.batch.made.lines)
    (c.packets_in-packets.ensures.count ∙ ap (λ (ss : List Send). length (sent_of ss)) (c.as_slice.ensures ∙ sym c.as_slice-made.ensures)) c.saturating_sub-own.ensures c.min-out.ensures refl c.saturating_sub-shown.ensures makes.size
    (subst (λ (ss : List Send). NetworkStands c.send_all.new.self (packets ++ map (packet_of k) (sent_of (take out ss))) (bytes + c.args.step.now.size + packets_size (sent_of (take out ss)))) same (c.in_ok-next.ensures.network packets _ kept texts))
    (c.in_ok-add_first.ensures.added ∙ ap (λ ls. c.args.lines.now ++ take own ls) (sym c.as_slice-told.ensures))
    (c.in_ok-next.ensures.lines packets _ kept texts ∙ ap (λ (ss : List Send). c.add_first.new.lines ++ send_lines k (length packets) (sent_of (take out ss))) same)
    (c.in_ok-add_replies.ensures ∙ ap (λ ls. c.send_all.new.lines ++ take c.saturating_sub-shown.result ls) (c.in_ok-add_first.ensures.stay ∙ ap (drop own) (sym c.as_slice-told.ensures)))

pub returns-clause-behind : goal.returns-clause-behind
returns-clause-behind c spelt =
    let texts = spelt_taken c.args.count c.min-out.result c.as_slice-2.result.now c.args.step.now.batch.sends (packets_of c.args.sent.now) c.args.first c.as_slice-2.ensures (c.min-out.ensures ∙ ap (λ (ss : List Send). min c.args.count (length ss)) c.as_slice-made.ensures) spelt in
    let next = c.in_ok-next.ensures.behind texts in
    let count = length-take c.min-out.result c.as_slice-2.result.now in
    let out = c.min-out.ensures in
    let made = ap length c.as_slice-made.ensures in
    let all = ap length c.as_slice-2.ensures in
    omega (arith, next, count, out, made, all)

pub returns-clause-exact : goal.returns-clause-exact
returns-clause-exact c =
    let next = c.in_ok-next.ensures.exact in
    let count = length-take c.min-out.result c.as_slice-2.result.now in
    let out = c.min-out.ensures in
    let made = ap length c.as_slice-made.ensures in
    let all = ap length c.as_slice-2.ensures in
    omega (arith, next, count, out, made, all)
