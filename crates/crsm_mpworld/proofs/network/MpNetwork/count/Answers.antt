use Rattle.std.proofs.Common.{◌∙◌}
use Rattle.crsm_mpworld.proofs.PacketLists.{packets_length}
use Rattle.crsm_mpworld.proofs.network.MpNetwork.count.Goals as goal

pub returns : goal.returns
returns c packets bytes h = c.len.ensures ∙ packets_length _ _ h.held
