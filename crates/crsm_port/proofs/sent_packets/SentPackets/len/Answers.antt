use Rattle.std.proofs.Common.{arith}
use Rattle.crsm_port.proofs.Kept.{length-packets}
use Rattle.crsm_port.proofs.sent_packets.SentPackets.len.Goals as goal

pub returns : goal.returns
returns c = omega (arith, c.len.ensures, c.args.self.now.labels.ok, length-packets c.args.self.now.labels.items c.args.self.now.bytes.items)
