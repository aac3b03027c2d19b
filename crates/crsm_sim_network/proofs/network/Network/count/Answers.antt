use Rattle.std.proofs.Common.{◌∙◌}
use Rattle.crsm_sim_network.proofs.PacketLists.{packets_length}
use Rattle.crsm_sim_network.proofs.network.Network.count.Goals as goal

pub returns : goal.returns
returns c packets bytes h = c.len.ensures ∙ (c.args.self.now.packets.ok.0 ∙ packets_length _ _ _ h.held)
