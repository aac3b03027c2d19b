use Rattle.std.proofs.Common.{◌<◌, ◌∙◌, sym, ap, arith, length, map, Some}
use Rattle.std.proofs.lemmas.Option.{slice_get-get_or}
use Rattle.crsm_sim_network.specs.Packets.{class_of_packet}
use Rattle.crsm_sim_network.proofs.Marked.{marks, unmarked}
use Rattle.crsm_sim_network.proofs.network.Network.use_up.Goals as goal

pub returns-then-number-len : goal.returns-then-number-len
returns-then-number-len c packets bytes h =
    let l : c.args.number < length c.args.self.now.packets.items = omega (arith, c.if-number-len.true, c.len.ensures, c.args.self.now.packets.ok.0) in
    marks c.args.self.now packets bytes c.args.number c.class_of-class.result c.index_mut-packet.result.now c.set.new.self h (slice_get-get_or _ _ c.index_mut-packet.result.now l ∙ ap Some (sym c.index_mut-packet.ensures.value)) c.class_of-class.ensures.class (c.set.ensures (map class_of_packet packets) h.tallied)

pub returns-else-number-len : goal.returns-else-number-len
returns-else-number-len c packets bytes h = unmarked c.args.self.now packets bytes c.args.number h (omega (arith, c.if-number-len.false, c.len.ensures, c.args.self.now.packets.ok.0))
