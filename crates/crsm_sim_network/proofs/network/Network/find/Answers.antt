use Rattle.crsm_sim_network.proofs.PacketLists.{packets_got}
use Rattle.crsm_sim_network.proofs.network.Network.find.Goals as goal

pub returns : goal.returns
returns c packets bytes h = packets_got _ _ _ packets c.args.number c.get.result h.held c.deref.ensures.value c.get.ensures.lookup.0 c.get.ensures.lookup.1
