use Rattle.crsm_mpworld.proofs.PacketLists.{packets_got}
use Rattle.crsm_mpworld.proofs.network.MpNetwork.get.Goals as goal

pub returns-clause-at : goal.returns-clause-at
returns-clause-at c packets bytes h = packets_got _ packets c.args.number c.get.result h.held h.fit c.get.ensures.at
