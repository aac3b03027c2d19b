use Rattle.std.proofs.Common.{inr}
use Rattle.crsm_port_packets.proofs.peer.Peer.greet.Goals as goal

pub returns-clause-goes : goal.returns-clause-goes
returns-clause-goes g c = inr (c.send.result, c.send.ensures.sends)
