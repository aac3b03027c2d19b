use Rattle.std.proofs.Common.{◌≡◌, arith, length}
use Rattle.crsm_port_flow.proofs.Sendings.{take_within}
use Rattle.crsm_port_flow.proofs.acks.Ack.datagram.Goals as goal

pub returns : goal.returns
returns c =
    let long : length c.args.self.now.bytes ≡ 28 = omega arith in
    take_within c.args.self.now.len c.min.result 28 c.args.self.now.bytes long c.min.ensures
