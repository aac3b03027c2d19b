use Rattle.std.proofs.Common.{◌≡◌, ◌∙◌, ◌+◌, ◌++◌, ◌∷◌, [], ℕ, ap, arith, refl, subst, length, length-append, map}
use Rattle.crsm_base.specs.Messages.{datagram_bytes}
use Rattle.crsm_spec.specs.World.{packet_of, send_line}
use Rattle.crsm_sim_network.specs.Tally.{TallyStands}
use Rattle.crsm_sim_network.specs.Packets.{NetworkStands, class_of_packet}
use Rattle.crsm_sim_network.proofs.PacketLists.{spelt_here}
use Rattle.crsm_sim_network.proofs.Marked.{sends, spelt_more}
use Rattle.crsm_sim_network.proofs.network.Network.send.Goals as goal

pub returns-clause-network : goal.returns-clause-network
unfolding packet_of class_of_packet
returns-clause-network c packets bytes h e =
    let old = c.args.self.now.spelling in
    let more = datagram_bytes c.args.datagram.now in
    let spelling = c.in_ok-append.ensures.ok ∙ ap (λ bs. old ++ bs) e in
    let start = c.as_slice-start.ensures in
    let end = c.as_slice-end.ensures in
    let grown = spelt_more c.args.self.now packets bytes c.append.new.self more h spelling in
    let starts : length c.as_slice-start.result.now ≡ length old = ap length start in
    let ends : length c.as_slice-end.result.now ≡ length old + length more = ap length (end ∙ spelling) ∙ length-append old more in
    let size : length c.args.text.now ≡ length more = ap length e in
    let number = c.count-index.ensures packets bytes h in
    let network = record c.args.self.now { spelling = c.append.new.self } in
    let sent = sends network packets bytes c.push-5.new.self c.push-2.new.self c.push-3.new.self c.push-4.new.self _ (packet_of c.args.k (c.args.to, c.args.datagram.now)) grown c.in_ok-push-5.ensures.items
    (c.in_ok-push-2.ensures.items ∙ ap (λ n. c.args.self.now.fresh.items ++ n ∷ []) number)
    (c.in_ok-push-3.ensures.items ∙ ap (λ n. c.args.self.now.near.items ++ n ∷ []) number)
    (record {
      from = refl;
      to = refl;
      order = omega (arith, starts, ends);
      within = let here : length c.as_slice-end.result.now ≡ length c.append.new.self = ap length end in omega (arith, here);
      bytes = spelt_here old more c.append.new.self c.as_slice-start.result.now c.as_slice-end.result.now spelling start end;
      fits = c.requires;
      used = refl;
    })
    (subst (λ (class : ℕ). TallyStands c.push-4.new.self (map class_of_packet packets ++ class ∷ [])) c.class_of.ensures.class (c.in_ok-push-4.ensures (map class_of_packet packets) h.tallied)) in
    subst (λ (n : ℕ). NetworkStands c.keep.new.self (packets ++ packet_of c.args.k (c.args.to, c.args.datagram.now) ∷ []) (bytes + n)) size (c.in_ok-keep.ensures _ bytes sent)

pub returns-clause-lines : goal.returns-clause-lines
unfolding send_line
returns-clause-lines c packets bytes h e =
    let more = datagram_bytes c.args.datagram.now in
    let n = c.count-index.ensures packets bytes h in
    let copy : c.in_ok-from_slice.field-0 ≡ more = c.in_ok-from_slice.ensures ∙ e in
    cc (c.in_ok-push.ensures.ok, n, c.kind_of.ensures, copy)
