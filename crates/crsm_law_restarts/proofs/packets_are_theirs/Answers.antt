use Rattle.crsm_law_restarts.proofs.Packets.{packets_are_theirs}
use Rattle.crsm_law_restarts.proofs.packets_are_theirs.Goals as goal

pub returns : goal.returns
returns c = packets_are_theirs
