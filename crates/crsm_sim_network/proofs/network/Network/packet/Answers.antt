use Rattle.crsm_sim_network.proofs.PacketLists.{viewed}
use Rattle.crsm_sim_network.proofs.network.Network.packet.Goals as goal

pub returns-in-Some : goal.returns-in-Some
returns-in-Some c packets bytes h =
    let found = c.in-Some.ensures packets bytes h in
    viewed packets c.args.number found.0 c.read.result found.1 (c.read.ensures found.0 found.2)
